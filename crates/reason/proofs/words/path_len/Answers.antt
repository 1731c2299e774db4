use Prim.Native.Nat.{◌-◌, ◌≤◌}
use mathlib.Core.Logic.{⊎_elim}
use native.Mathlib.Omega.{arith}
use Rattle.reason.proofs.PathLaws.{rest-begin, rest_all, rest-first, rest-later, node-below, node-first, inside-place, item-digits}
use Rattle.reason.proofs.words.path_len.Goals as goal
use Rattle.reason.proofs.words.path_len.Goals.{then-at-gt0, else-at-gt0}

pub loop-at-init : goal.loop-at-init
loop-at-init c = (c.requires.root, c.requires.node, rest-begin _, omega arith)

pub item_towards-item-requires : goal.item_towards-item-requires
item_towards-item-requires c = let l = c.loop-at in (l.invariant.0, node-below l.invariant.1 c.loop-at-test.true)

pub overflow_add-len : goal.overflow_add-len
overflow_add-len c =
    let p = inside-place c.requires in
    let t = c.loop-at-test.true in
    let b = c.loop-at.invariant.3 in
    omega arith

pub overflow_add-len-in-loop-at : goal.overflow_add-len-in-loop-at
overflow_add-len-in-loop-at c =
    let p = inside-place c.requires in
    let t = c.loop-at-test.true in
    let b = c.loop-at.invariant.3 in
    let r = c.static_int_str_len-len.ensures in
    let d = item-digits c.item_towards-item.ensures p in
    elim c.if-at-gt0.branch [ then-at-gt0 w ↦ omega arith | else-at-gt0 w ↦ omega arith ]

pub loop-at-smaller : goal.loop-at-smaller
loop-at-smaller c =
    let f = c.item_towards-item.ensures.further in
    let t = c.loop-at-test.true in
    omega arith

pub loop-at-preserved : goal.loop-at-preserved
loop-at-preserved c =
    let l = c.loop-at in
    let w = c.item_towards-item.ensures in
    let p = inside-place c.requires in
    let b = l.invariant.3 in
    let r = c.static_int_str_len-len.ensures in
    let d = item-digits w p in
    let f = w.further in (
      w.whole,
      w.holds,
      elim c.if-at-gt0.branch [
        | then-at-gt0 j ↦ rest-later _ _ _ _ _ w l.len _ _ r l.invariant.2 j.if-at-gt0.true j.len-is
        | else-at-gt0 j ↦ rest-first _ _ _ _ _ w l.len _ _ r l.invariant.2 j.if-at-gt0.false j.len-is
      ],
      elim c.if-at-gt0.branch [ then-at-gt0 w ↦ omega arith | else-at-gt0 w ↦ omega arith ],
    )

pub returns : goal.returns
returns c =
    let l = c.loop-at in
    let p = inside-place c.requires in
    let b = l.invariant.3 in
    let s = node-first l.invariant.1 in
    let short : l.len ≤ 200000 = omega arith in
    (rest_all _ _ _ l.len l.invariant.1 c.loop-at-test.false l.invariant.2, short)
