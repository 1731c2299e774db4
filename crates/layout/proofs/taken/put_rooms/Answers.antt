use Prim.Native.Nat.{◌-◌, ◌*◌}
use mathlib.Core.Path.{refl, subst₂}
use native.Mathlib.Omega.{arith}
use lib.ListN.{length-set}
use Rattle.kinds.specs.Walk.{TreesAt}
use Rattle.kinds.proofs.NodeLaws.{first-node, first-within, inner-trees}
use Rattle.layout.proofs.TakenLaws.{taken_start, taken-turn, taken-end}
use Rattle.layout.proofs.taken.put_rooms.Goals as goal

pub loop-i-init : goal.loop-i-init
loop-i-init c =
    let a = c.args in
    (subst₂ (TreesAt a.nodes.now) (omega arith) (omega arith) c.requires.0, refl, λ m o s. taken_start m a.limit s a.nodes.now a.n a.list.now)

pub node_room-bytes-requires : goal.node_room-bytes-requires
node_room-bytes-requires c =
    let a = c.args in
    let v = c.loop-i.invariant in
    let i = c.loop-i.i in
    let b = first-within a.nodes.now (4 * i) (a.n - i) v.0 (omega arith) in
    let q = c.requires.1 in
    (first-node a.nodes.now (4 * i) (a.n - i) v.0 (omega arith), omega arith)

pub bounds-list-i-in-loop-i : goal.bounds-list-i-in-loop-i
bounds-list-i-in-loop-i c = simp length-set (omega arith)

pub loop-i-preserved : goal.loop-i-preserved
loop-i-preserved c =
    let a = c.args in
    let v = c.loop-i.invariant in
    let i = c.loop-i.i in (
      subst₂ (TreesAt a.nodes.now) (omega arith) (omega arith) (inner-trees a.nodes.now (4 * i) (a.n - i) v.0 (omega arith)),
      simp length-set v.1,
      λ m o s. taken-turn m a.limit s a.nodes.now a.n i c.loop-i.list v.0 (omega arith) (c.node_room-bytes.ensures m o s) (v.2 m o s),
    )

pub shape_of-list : goal.shape_of-list
shape_of-list c = c.loop-i.invariant.1

pub returns : goal.returns
returns c =
    let a = c.args in
    λ m o s. taken-end m a.limit s a.nodes.now a.n c.loop-i.i c.loop-i.list (omega arith) (c.loop-i.invariant.2 m o s)
