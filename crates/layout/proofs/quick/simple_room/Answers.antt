use native.Mathlib.Omega.{arith}
use Rattle.std.proofs.lemmas.Option.{IfSome_then}
use Rattle.layout.proofs.RoomLaws.{simple-plain, simple-atomic, simple-array}
use Rattle.kinds.proofs.NodeLaws.{node-child}
use Rattle.layout.proofs.quick.simple_room.Goals as goal

pub returns-then-kind-lt-ATOMIC : goal.returns-then-kind-lt-ATOMIC
returns-then-kind-lt-ATOMIC c =
    let a = c.args in
    IfSome_then _ c.plain_room.ensures (λ x p. simple-plain a.sizes.now a.nodes.now a.at c.if-kind-lt-ATOMIC.true p)

pub bounds-nodes-at-2 : goal.bounds-nodes-at-2
bounds-nodes-at-2 c =
    let h = node-child c.args.nodes.now c.args.at c.requires.1 (omega arith) c.if-kind-gt-ARRAY.false in
    let r = h.room in
    let m = h.some-node in
    omega arith

pub array_room-requires : goal.array_room-requires
array_room-requires c = let p = c.in_ok-item.ensures in let s = p.small in (p.power, omega arith)

pub returns-then-kind-eq-ARRAY : goal.returns-then-kind-eq-ARRAY
returns-then-kind-eq-ARRAY c =
    let a = c.args in
    IfSome_then _ c.array_room.ensures (λ x r. simple-array a.sizes.now a.nodes.now a.at c.if-kind-eq-ARRAY.true (c.in_ok-item.ensures) r)

pub returns : goal.returns
returns c =
    let a = c.args in
    let e = c.if-kind-eq-ARRAY.false in
    simple-atomic a.sizes.now a.nodes.now a.at (omega arith) (c.in_ok-item.ensures)
