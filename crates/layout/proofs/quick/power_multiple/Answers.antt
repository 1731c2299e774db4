use lib.Bits.{and_le_l}
use Rattle.layout.proofs.RoomLaws.{mask-multiple}
use Rattle.layout.proofs.quick.power_multiple.Goals as goal

pub overflow_sub-result : goal.overflow_sub-result
overflow_sub-result c = and_le_l _ _

pub returns : goal.returns
returns c = mask-multiple c.args.alignment c.args.n c.requires.0
