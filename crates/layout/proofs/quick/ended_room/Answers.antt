use native.Mathlib.Omega.{arith}
use Rattle.layout.proofs.RoomLaws.{container-room}
use Rattle.layout.proofs.quick.ended_room.Goals as goal

pub returns-then-kind-eq-ARRAY : goal.returns-then-kind-eq-ARRAY
returns-then-kind-eq-ARRAY c = rw c.if-kind-eq-ARRAY.true c.array_room.ensures

pub returns : goal.returns
returns c =
    let a = c.args in
    let p = c.requires in
    let e = c.if-kind-eq-ARRAY.false in
    container-room a.kind a.n a.run (omega arith) p.2 p.3 c.power_multiple.ensures
