use Rattle.layout.proofs.FillLaws.{walk_end, laid_as, not-simple, simple-laid, filling-start, filling-node, filling-within, filling-zeros, filling-turn}
use Prim.Native.Nat.{ℕ, ◌-◌, ◌*◌}
use Rattle.layout.specs.Placing.{Laid}
use Rattle.kinds.specs.Walk.{TreesAt}
use Rattle.layout.proofs.ExtentLaws.{not_plain}
use native.Mathlib.Omega.{arith}
use mathlib.Core.Path.{sym, ◌∙◌, subst}
use Rattle.kinds.specs.Sheet.{kind_at, count_at}
use Rattle.kinds.proofs.NodeLaws.{node-inner}
use Rattle.layout.proofs.place.+place.Goals as goal
use Rattle.layout.proofs.place.+place.Goals.{then-is_simple-2, else-is_simple-2}

pub is_simple-requires : goal.is_simple-requires
is_simple-requires t c = c.requires.0

pub simple-requires : goal.simple-requires
simple-requires t c =
    (c.requires.0, sym c.is_simple.ensures ∙ c.if-is_simple.true)

pub returns-then-is_simple : goal.returns-then-is_simple
returns-then-is_simple t c =
    let a = c.args in
    simple-laid a.sizes.now a.nodes.now a.i c.requires.0 (sym c.is_simple.ensures ∙ c.if-is_simple.true) a.offsets.now c.requires.2
    c.simple.ensures

pub loop-left-init : goal.loop-left-init
loop-left-init t c =
    let a = c.args in
    let n = c.requires.0.some-node in (
      omega arith,
      filling-start (subst (λ (at : ℕ). TreesAt a.nodes.now at (count_at a.nodes.now (4 * a.i) - 1)) (omega arith)
          (node-inner a.nodes.now (4 * a.i) c.requires.0))
          (omega arith) c.requires.2 c.new-run.ensures,
    )

pub is_simple-requires-in-loop-left : goal.is_simple-requires-in-loop-left
is_simple-requires-in-loop-left t c =
    filling-node c.loop-left.invariant.1 c.loop-left-test.true

pub simple-x-requires : goal.simple-x-requires
simple-x-requires t c =
    (filling-node c.loop-left.invariant.1 c.loop-left-test.true, sym c.is_simple-in-loop-left.ensures ∙ c.if-is_simple-2.true)

pub place-x-requires : goal.place-x-requires
place-x-requires t c =
    let b = filling-within c.loop-left.invariant.1 c.loop-left-test.true in
    (omega arith, (filling-node c.loop-left.invariant.1 c.loop-left-test.true, omega arith, filling-zeros c.loop-left.invariant.1 c.loop-left-test.true))

pub add_field-run-requires : goal.add_field-run-requires
add_field-run-requires t c =
    let b = filling-within c.loop-left.invariant.1 c.loop-left-test.true in
    let l : Laid c.args.sizes.now c.args.nodes.now c.loop-left.j c.loop-left.offsets c.if-is_simple-2.offsets c.if-is_simple-2.x = elim c.if-is_simple-2.branch [
      | then-is_simple-2 w ↦ laid_as (simple-laid c.args.sizes.now c.args.nodes.now c.loop-left.j (filling-node c.loop-left.invariant.1 c.loop-left-test.true)
          (sym c.is_simple-in-loop-left.ensures ∙ w.if-is_simple-2.true) c.loop-left.offsets
          (filling-zeros c.loop-left.invariant.1 c.loop-left-test.true) w.simple-x.ensures) w.offsets-is w.x-is
      | else-is_simple-2 w ↦ laid_as w.place-x.ensures w.offsets-is w.x-is
    ] in
    let m = l.as_long in
    (l.aligned, omega arith)

pub overflow_mul-count : goal.overflow_mul-count
overflow_mul-count t c =
    let b = filling-within c.loop-left.invariant.1 c.loop-left-test.true in
    let g = c.well_formed.1.0 in
    omega arith

pub overflow_add-count : goal.overflow_add-count
overflow_add-count t c =
    let b = filling-within c.loop-left.invariant.1 c.loop-left-test.true in
    let g = c.well_formed.1.0 in
    omega arith

pub bounds-nodes-j : goal.bounds-nodes-j
bounds-nodes-j t c =
    let b = filling-within c.loop-left.invariant.1 c.loop-left-test.true in omega arith

pub overflow_add-j-in-loop-left : goal.overflow_add-j-in-loop-left
overflow_add-j-in-loop-left t c =
    let b = filling-within c.loop-left.invariant.1 c.loop-left-test.true in
    let g = c.well_formed.1.0 in
    omega arith

pub overflow_sub-left-in-loop-left : goal.overflow_sub-left-in-loop-left
overflow_sub-left-in-loop-left t c =
    let b = filling-within c.loop-left.invariant.1 c.loop-left-test.true in omega arith

pub loop-left-smaller : goal.loop-left-smaller
loop-left-smaller t c =
    let b = filling-within c.loop-left.invariant.1 c.loop-left-test.true in omega arith

pub loop-left-preserved : goal.loop-left-preserved
loop-left-preserved t c =
    let b = filling-within c.loop-left.invariant.1 c.loop-left-test.true in
    let l : Laid c.args.sizes.now c.args.nodes.now c.loop-left.j c.loop-left.offsets c.if-is_simple-2.offsets c.if-is_simple-2.x = elim c.if-is_simple-2.branch [
      | then-is_simple-2 w ↦ laid_as (simple-laid c.args.sizes.now c.args.nodes.now c.loop-left.j (filling-node c.loop-left.invariant.1 c.loop-left-test.true)
          (sym c.is_simple-in-loop-left.ensures ∙ w.if-is_simple-2.true) c.loop-left.offsets
          (filling-zeros c.loop-left.invariant.1 c.loop-left-test.true) w.simple-x.ensures) w.offsets-is w.x-is
      | else-is_simple-2 w ↦ laid_as w.place-x.ensures w.offsets-is w.x-is
    ] in (
      omega arith,
      filling-turn c.loop-left.invariant.1 c.loop-left-test.true c.if-is_simple-2.x c.if-is_simple-2.offsets _ l c.add_field-run.ensures.list
          c.add_field-run.ensures.takes,
    )

pub returns : goal.returns
returns t c =
    let a = c.args in
    let k = not_plain (kind_at a.nodes.now (4 * a.i)) (not-simple a.nodes.now (4 * a.i) (sym c.is_simple.ensures ∙ c.if-is_simple.false)) in
    walk_end a.sizes.now a.nodes.now a.i c.requires.0 k.0 k.1 c.loop-left.invariant.1 c.loop-left-test.false c.ended_by.ensures
