use native.Mathlib.Omega.{arith}
use mathlib.Core.Path.{refl}
use Rattle.kinds.proofs.NodeLaws.{leaf-count}
use Rattle.layout.proofs.RoomLaws.{simple-plain}
use Rattle.layout.proofs.WalkLaws.{walking-within, walking-node, walking-count, walking-put}
use Rattle.layout.proofs.quick.step.Goals as goal

pub add_room-requires : goal.add_room-requires
add_room-requires c =
    let g = c.requires.1 in
    let b = walking-within g in
    let q = c.in_ok-code_room.ensures in
    let s = q.small in
    (g.level.power, g.level.small, q.power, omega arith, omega arith)

pub returns-then-kind-lt-PRIMITIVES : goal.returns-then-kind-lt-PRIMITIVES
returns-then-kind-lt-PRIMITIVES c =
    let g = c.requires.1 in
    let k = c.if-kind-lt-PRIMITIVES.true in
    let n = leaf-count _ _ (walking-node g c.requires.2) (omega arith) in
    (walking-put g c.requires.2 (simple-plain _ _ _ (omega arith) (c.in_ok-code_room.ensures)) (c.in_ok-add_room.ensures) (omega arith), omega arith)

pub simple_room-requires : goal.simple_room-requires
simple_room-requires c = (c.requires.0, walking-node c.requires.1 c.requires.2)

pub enters-requires : goal.enters-requires
enters-requires c = walking-node c.requires.1 c.requires.2

pub overflow_add-result-3 : goal.overflow_add-result-3
overflow_add-result-3 c =
    let b = walking-within c.requires.1 in
    let n = walking-count c.requires.1 c.requires.2 in
    let f = c.requires.1.few in
    omega arith

pub add_room-requires-2 : goal.add_room-requires-2
add_room-requires-2 c =
    let g = c.requires.1 in
    let b = walking-within g in
    let q = c.in-Some.ensures in
    (g.level.power, g.level.small, q.power, q.small, omega arith)

pub returns : goal.returns
returns c =
    let g = c.requires.1 in
    let n = walking-count g c.requires.2 in
    (walking-put g c.requires.2 c.in-Some.ensures c.in_ok-add_room-2.ensures refl, omega arith)
