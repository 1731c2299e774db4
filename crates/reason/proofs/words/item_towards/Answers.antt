use Prim.Native.Nat.{◌-◌}
use native.Mathlib.Omega.{arith}
use Rattle.reason.proofs.PathLaws.{among_first, among-node, among-start, among_next, among-found}
use Rattle.reason.proofs.words.item_towards.Goals as goal

pub overflow_add-at : goal.overflow_add-at
overflow_add-at c = let r = c.requires.0.room in let s = c.requires.0.some-node in omega arith

pub subtree-count-requires : goal.subtree-count-requires
subtree-count-requires c = among-node _ _ _ _ _ (among_first _ _ _ c.requires.0 c.requires.1)

pub loop-count-init : goal.loop-count-init
loop-count-init c = (among_first _ _ _ c.requires.0 c.requires.1, c.subtree-count.ensures)

pub overflow_mul-count : goal.overflow_mul-count
overflow_mul-count c =
    let n = among-node _ _ _ _ _ c.loop-count.invariant.0 in
    let r = n.room in
    let e = c.loop-count.invariant.1 in
    omega arith

pub overflow_sub-x : goal.overflow_sub-x
overflow_sub-x c = let p = among-start _ _ _ _ _ c.loop-count.invariant.0 in omega arith

pub overflow_mul-at : goal.overflow_mul-at
overflow_mul-at c =
    let n = among-node _ _ _ _ _ c.loop-count.invariant.0 in
    let r = n.room in
    let e = c.loop-count.invariant.1 in
    omega arith

pub overflow_add-at-in-loop-count : goal.overflow_add-at-in-loop-count
overflow_add-at-in-loop-count c =
    let n = among-node _ _ _ _ _ c.loop-count.invariant.0 in
    let r = n.room in
    let e = c.loop-count.invariant.1 in
    omega arith

pub overflow_add-number : goal.overflow_add-number
overflow_add-number c =
    let a = c.loop-count.invariant.0 in
    let f = a.few in
    let n = among-node _ _ _ _ _ a in
    let r = n.room in
    omega arith

pub subtree-count-requires-in-loop-count : goal.subtree-count-requires-in-loop-count
subtree-count-requires-in-loop-count c = let l = c.loop-count in among-node _ _ _ _ _ (among_next _ _ _ _ _ l.invariant.0 l.invariant.1 c.loop-count-test.true)

pub loop-count-smaller : goal.loop-count-smaller
loop-count-smaller c =
    let l = c.loop-count in
    let n = among-node _ _ _ _ _ l.invariant.0 in
    let s = n.some-node in
    let e = l.invariant.1 in
    let p = among-start _ _ _ _ _ l.invariant.0 in
    omega arith

pub loop-count-preserved : goal.loop-count-preserved
loop-count-preserved c = let l = c.loop-count in (among_next _ _ _ _ _ l.invariant.0 l.invariant.1 c.loop-count-test.true, c.subtree-count-in-loop-count.ensures)

pub returns : goal.returns
returns c =
    let l = c.loop-count in
    let e = l.invariant.1 in
    let p = among-start _ _ _ _ _ l.invariant.0 in
    among-found _ _ _ _ _ l.invariant.0 (omega arith)
