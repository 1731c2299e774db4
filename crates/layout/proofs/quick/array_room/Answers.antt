use native.Mathlib.Omega.{arith}
use Rattle.layout.proofs.RoomLaws.{array-small, array-room}
use Rattle.layout.proofs.quick.array_room.Goals as goal

pub overflow_mul-result : goal.overflow_mul-result
overflow_mul-result c =
    let h = array-small c.args.n c.args.item.bytes c.if-n-gt-MOST.false c.requires.1 in
    omega arith

pub returns : goal.returns
returns c = array-room c.args.n c.args.item c.requires.0 c.requires.1 c.if-n-gt-MOST.false
