use Prim.Native.Nat.{◌-◌}
use mathlib.Core.Path.{refl, ◌∙◌}
use native.Mathlib.Omega.{arith}
use Rattle.lines.proofs.PutLaws.{to-put, then-put, all-put, put_same}
use Rattle.reason.proofs.PathLaws.{rest-start, rest-none, rest-step, node-below, node-last}
use Rattle.reason.proofs.words.put_path.Goals as goal

pub loop-at-init : goal.loop-at-init
loop-at-init c = let p = c.requires in (p.root, p.node, to-put _ _ _, refl)

pub item_towards-item-requires : goal.item_towards-item-requires
item_towards-item-requires c = let l = c.loop-at in (l.invariant.0, node-below l.invariant.1 c.loop-at-test.true)

pub loop-at-smaller : goal.loop-at-smaller
loop-at-smaller c =
    let f = c.item_towards-item.ensures.further in
    let t = c.loop-at-test.true in
    omega arith

pub loop-at-preserved : goal.loop-at-preserved
loop-at-preserved c =
    let l = c.loop-at in
    let w = c.item_towards-item.ensures in
    (w.whole, w.holds, then-put _ _ (rest-step _ _ _ _ _ w) l.invariant.2 c.put_item-to.ensures, c.put_item-to.auto.out ∙ l.invariant.3)

pub shape_of-out : goal.shape_of-out
shape_of-out c = c.loop-at.invariant.3

pub returns : goal.returns
returns c =
    let l = c.loop-at in
    put_same (rest-start _) (all-put (rest-none _ _ _ (node-last l.invariant.1 c.loop-at-test.false)) l.invariant.2)
