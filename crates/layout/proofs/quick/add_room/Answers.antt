use native.Mathlib.Omega.{arith}
use Rattle.std.proofs.lemmas.Option.{IfSome_then}
use Rattle.layout.proofs.RoomLaws.{struct-room, union-room}
use Rattle.layout.proofs.MultipleLaws.{within-a-step}
use Rattle.layout.proofs.quick.add_room.Goals as goal

pub overflow_add-begin : goal.overflow_add-begin
overflow_add-begin c =
    let a = c.args in
    let p = c.requires in
    let s = within-a-step a.x.alignment a.run.bytes p.2.0 in
    let e = c.power_multiple-begin.ensures in
    let l = p.2.1 in
    let b = p.1 in
    let d = p.3 in
    omega arith

pub returns-then-kind-eq-STRUCT : goal.returns-then-kind-eq-STRUCT
returns-then-kind-eq-STRUCT c =
    let a = c.args in
    let p = c.requires in
    IfSome_then _ c.small_room.ensures (λ y r. struct-room a.kind a.run a.x p.0 p.2 c.if-kind-eq-STRUCT.true p.1 c.power_multiple-begin.ensures c.max-alignment.ensures
    r.0 r.1 r.2 a.numbers.now a.j)

pub returns : goal.returns
returns c =
    let a = c.args in
    let p = c.requires in
    IfSome_then _ c.small_room-2.ensures (λ y r. union-room a.kind a.run a.x p.0 p.2 c.if-kind-eq-STRUCT.false c.max.ensures c.max-alignment.ensures
    r.0 r.1 r.2 a.numbers.now a.j)
