use Rattle.helper.proofs.SizeLaws.{bytes-next_power}
use Rattle.helper.proofs.bit_bytes.Goals as goal

pub returns : goal.returns
returns c = bytes-next_power c.args.n _ _ c.div_ceil.ensures c.next_power_of_two.ensures.power c.next_power_of_two.ensures.lower_bound c.next_power_of_two.ensures.upper_bound
