use native.Mathlib.Omega.{arith}
use mathlib.Core.List.{[]}
use Rattle.kinds.proofs.NodeLaws.{first_some, first-within, first-node}
use Rattle.reason.proofs.PathLaws.{items-next, items-all}
use Rattle.reason.proofs.find.count_items.Goals as goal

pub loop-left-init : goal.loop-left-init
loop-left-init c = (c.requires, omega arith, omega arith)

pub subtree-c-requires : goal.subtree-c-requires
subtree-c-requires c =
    first-node _ c.loop-left.at c.loop-left.left c.loop-left.invariant.0 c.loop-left-test.true

pub overflow_mul-at : goal.overflow_mul-at
overflow_mul-at c =
    let r = c.loop-left.invariant.0.room in
    let f = first-within _ c.loop-left.at c.loop-left.left c.loop-left.invariant.0 c.loop-left-test.true in
    let e = c.subtree-c.ensures in
    omega arith

pub overflow_add-at : goal.overflow_add-at
overflow_add-at c =
    let r = c.loop-left.invariant.0.room in
    let f = first-within _ c.loop-left.at c.loop-left.left c.loop-left.invariant.0 c.loop-left-test.true in
    let e = c.subtree-c.ensures in
    omega arith

pub overflow_sub-left : goal.overflow_sub-left
overflow_sub-left c =
    let f = first-within _ c.loop-left.at c.loop-left.left c.loop-left.invariant.0 c.loop-left-test.true in
    let e = c.subtree-c.ensures in
    omega arith

pub overflow_add-count : goal.overflow_add-count
overflow_add-count c = omega arith

pub loop-left-smaller : goal.loop-left-smaller
loop-left-smaller c =
    let s = first_some _ c.loop-left.at c.loop-left.left c.loop-left.invariant.0 c.loop-left-test.true in
    let f = first-within _ c.loop-left.at c.loop-left.left c.loop-left.invariant.0 c.loop-left-test.true in
    let e = c.subtree-c.ensures in
    omega arith

pub loop-left-preserved : goal.loop-left-preserved
loop-left-preserved c =
    let s = first_some _ c.loop-left.at c.loop-left.left c.loop-left.invariant.0 c.loop-left-test.true in
    let f = first-within _ c.loop-left.at c.loop-left.left c.loop-left.invariant.0 c.loop-left-test.true in
    let e = c.subtree-c.ensures in
    let i = items-next [] _ c.loop-left.left c.loop-left.at _ e c.loop-left.invariant.0 c.loop-left-test.true in
    let j = i.1 in
    let q = c.loop-left.invariant.1 in
    (i.0, omega arith, omega arith)

pub returns : goal.returns
returns c =
    items-all [] _ c.loop-left.left c.loop-left.at c.loop-left.invariant.1 c.loop-left-test.false
