use Prim.Native.Nat.{ℕ, ◌-◌}
use mathlib.Core.Path.{sym, ◌∙◌}
use mathlib.Core.Logic.{⊎_elim}
use native.Mathlib.Omega.{arith}
use Rattle.kinds.proofs.ListLaws.{whole}
use Rattle.reason.proofs.SpotLaws.{resume-level}
use Rattle.reason.proofs.WalkLaws.{some_left, zero_left, part-all, left_end, left-short, left-bounds, left_here, left-own, left-next, left_over, left-count, left-inner, left-fields, left_after, left-last}
use Rattle.reason.proofs.find.+first_difference_items_difference.Goals as goal
use Rattle.reason.proofs.find.+first_difference_items_difference.Goals.{first_difference-then-is_container+in-NotCompared, first_difference-then-is_container+in-Equal+else-left-c+in_default-below, first_difference-else-is_container}

pub first_difference-loop-left-init : goal.first_difference-loop-left-init
first_difference-loop-left-init t c =
    let pre = c.requires in (
      omega arith,
      record {
        first = pre.trees_at.0;
        second = pre.trees_at.1;
        first_walk = pre.kinds_and_names.0;
        second_walk = pre.kinds_and_names.1;
        first_part = part-all _ _;
        second-part = part-all _ _;
        rest = resume-level _ _ _ _ _;
      },
    )

pub first_difference-returns-then-more-eq0 : goal.first_difference-returns-then-more-eq0
first_difference-returns-then-more-eq0 t c = left-short c.loop-left.invariant.1 (zero_left _ c.if-more-eq0.true)

pub first_difference-own_difference-requires : goal.first_difference-own_difference-requires
first_difference-own_difference-requires t c = let p = left_here c.loop-left.invariant.1 c.loop-left-test.true (some_left _ c.if-more-eq0.false) in record { node_at = p.0; kind_and_name = p.1 }

pub first_difference-returns-in-Some : goal.first_difference-returns-in-Some
first_difference-returns-in-Some t c =
    left-own c.loop-left.invariant.1 c.loop-left-test.true (some_left _ c.if-more-eq0.false) (rw c.in-Some.is at c.own_difference.ensures)

pub first_difference-offset_bounds-a-at : goal.first_difference-offset_bounds-a-at
first_difference-offset_bounds-a-at t c =
    let b = left-bounds c.loop-left.invariant.1 c.loop-left-test.true (some_left _ c.if-more-eq0.false) in
    let g = c.well_formed in
    omega arith

pub first_difference-bounds-a-at : goal.first_difference-bounds-a-at
first_difference-bounds-a-at t c =
    let b = left-bounds c.loop-left.invariant.1 c.loop-left-test.true (some_left _ c.if-more-eq0.false) in
    let g = c.well_formed in
    omega arith

pub first_difference-overflow_add-c : goal.first_difference-overflow_add-c
first_difference-overflow_add-c t c =
    let b = left-bounds c.loop-left.invariant.1 c.loop-left-test.true (some_left _ c.if-more-eq0.false) in
    let g = c.well_formed in
    omega arith

pub first_difference-offset_bounds-a-at-then-is_container : goal.first_difference-offset_bounds-a-at-then-is_container
first_difference-offset_bounds-a-at-then-is_container t c =
    let b = left-bounds c.loop-left.invariant.1 c.loop-left-test.true (some_left _ c.if-more-eq0.false) in
    let g = c.well_formed in
    omega arith

pub first_difference-bounds-a-at-then-is_container : goal.first_difference-bounds-a-at-then-is_container
first_difference-bounds-a-at-then-is_container t c =
    let b = left-bounds c.loop-left.invariant.1 c.loop-left-test.true (some_left _ c.if-more-eq0.false) in
    let g = c.well_formed in
    omega arith

pub first_difference-overflow_add-d : goal.first_difference-overflow_add-d
first_difference-overflow_add-d t c =
    let b = left-bounds c.loop-left.invariant.1 c.loop-left-test.true (some_left _ c.if-more-eq0.false) in
    let g = c.well_formed in
    omega arith

pub first_difference-offset_bounds-b-bt : goal.first_difference-offset_bounds-b-bt
first_difference-offset_bounds-b-bt t c =
    let b = left-bounds c.loop-left.invariant.1 c.loop-left-test.true (some_left _ c.if-more-eq0.false) in
    let g = c.well_formed in
    omega arith

pub first_difference-bounds-b-bt : goal.first_difference-bounds-b-bt
first_difference-bounds-b-bt t c =
    let b = left-bounds c.loop-left.invariant.1 c.loop-left-test.true (some_left _ c.if-more-eq0.false) in
    let g = c.well_formed in
    omega arith

pub first_difference-compare_counts-requires : goal.first_difference-compare_counts-requires
first_difference-compare_counts-requires t c =
    let h = left_here c.loop-left.invariant.1 c.loop-left-test.true (some_left _ c.if-more-eq0.false)
    in (h.0.0, h.0.1, sym c.is_container.ensures ∙ c.if-is_container.true)

pub first_difference-returns-in-Unequal : goal.first_difference-returns-in-Unequal
first_difference-returns-in-Unequal t c =
    rw c.found.ensures (left-count c.loop-left.invariant.1 c.loop-left-test.true (some_left _ c.if-more-eq0.false) (rw c.in_default.is at c.own_difference.ensures)
    (sym c.is_container.ensures ∙ c.if-is_container.true) c.level_for.ensures
    (rw c.in-Unequal.is at (c.compare_counts.ensures c.args.an.now c.args.bn.now)))

pub first_difference-overflow_add-at : goal.first_difference-overflow_add-at
first_difference-overflow_add-at t c =
    let b = left-bounds c.loop-left.invariant.1 c.loop-left-test.true (some_left _ c.if-more-eq0.false) in
    let g = c.well_formed in
    omega arith

pub first_difference-overflow_sub-left : goal.first_difference-overflow_sub-left
first_difference-overflow_sub-left t c =
    let b = left-bounds c.loop-left.invariant.1 c.loop-left-test.true (some_left _ c.if-more-eq0.false) in
    let g = c.well_formed in
    omega arith

pub first_difference-overflow_add-bt : goal.first_difference-overflow_add-bt
first_difference-overflow_add-bt t c =
    let b = left-bounds c.loop-left.invariant.1 c.loop-left-test.true (some_left _ c.if-more-eq0.false) in
    let g = c.well_formed in
    omega arith

pub first_difference-overflow_sub-more : goal.first_difference-overflow_sub-more
first_difference-overflow_sub-more t c =
    let b = left-bounds c.loop-left.invariant.1 c.loop-left-test.true (some_left _ c.if-more-eq0.false) in
    let g = c.well_formed in
    omega arith

pub first_difference-loop-left-smaller-then-left-c : goal.first_difference-loop-left-smaller-then-left-c
first_difference-loop-left-smaller-then-left-c t c =
    let b = left-bounds c.loop-left.invariant.1 c.loop-left-test.true (some_left _ c.if-more-eq0.false) in
    let g = c.well_formed in
    omega arith

pub first_difference-loop-left-preserved-then-left-c : goal.first_difference-loop-left-preserved-then-left-c
first_difference-loop-left-preserved-then-left-c t c =
    let b = left-bounds c.loop-left.invariant.1 c.loop-left-test.true (some_left _ c.if-more-eq0.false) in (
      omega arith,
      left-last c.loop-left.invariant.1 c.loop-left-test.true (some_left _ c.if-more-eq0.false)
          (rw c.in_default.is at c.own_difference.ensures) (sym c.is_container.ensures ∙ c.if-is_container.true) c.level_for.ensures
          (rw c.in-Equal.is at (c.compare_counts.ensures c.args.an.now c.args.bn.now)) c.if-left-c.true,
    )

pub first_difference-items_difference-below-requires : goal.first_difference-items_difference-below-requires
first_difference-items_difference-below-requires t c = let b = left-bounds c.loop-left.invariant.1 c.loop-left-test.true (some_left _ c.if-more-eq0.false) in
    let i = left-inner c.loop-left.invariant.1 c.loop-left-test.true (some_left _ c.if-more-eq0.false)
    (rw c.in_default.is at c.own_difference.ensures) (sym c.is_container.ensures ∙ c.if-is_container.true) c.level_for.ensures
    (rw c.in-Equal.is at (c.compare_counts.ensures c.args.an.now c.args.bn.now)) in (omega arith, ((omega arith, omega arith, i.0.0, i.0.1), i.1))

pub first_difference-returns-in-Some-below : goal.first_difference-returns-in-Some-below
first_difference-returns-in-Some-below t c =
    left-fields c.loop-left.invariant.1 c.loop-left-test.true (some_left _ c.if-more-eq0.false) (rw c.in_default.is at c.own_difference.ensures)
    (sym c.is_container.ensures ∙ c.if-is_container.true) c.level_for.ensures
    (rw c.in-Equal.is at (c.compare_counts.ensures c.args.an.now c.args.bn.now))
    (rw c.in-Some-below.is at c.items_difference-below.ensures)

pub first_difference-offset_bounds-a-at-in-loop-left : goal.first_difference-offset_bounds-a-at-in-loop-left
first_difference-offset_bounds-a-at-in-loop-left t c =
    let b = left-bounds c.loop-left.invariant.1 c.loop-left-test.true (some_left _ c.if-more-eq0.false) in
    let g = c.well_formed in
    omega arith

pub first_difference-bounds-a-at-in-loop-left : goal.first_difference-bounds-a-at-in-loop-left
first_difference-bounds-a-at-in-loop-left t c =
    let b = left-bounds c.loop-left.invariant.1 c.loop-left-test.true (some_left _ c.if-more-eq0.false) in
    let g = c.well_formed in
    omega arith

pub first_difference-overflow_mul-at : goal.first_difference-overflow_mul-at
first_difference-overflow_mul-at t c =
    let b = left-bounds c.loop-left.invariant.1 c.loop-left-test.true (some_left _ c.if-more-eq0.false) in
    let g = c.well_formed in
    elim c.if-is_container.branch [ first_difference-then-is_container+in-NotCompared w ↦ omega arith | first_difference-then-is_container+in-Equal+else-left-c+in_default-below w ↦ omega arith | first_difference-else-is_container w ↦ omega arith ]

pub first_difference-overflow_add-at-in-loop-left : goal.first_difference-overflow_add-at-in-loop-left
first_difference-overflow_add-at-in-loop-left t c =
    let b = left-bounds c.loop-left.invariant.1 c.loop-left-test.true (some_left _ c.if-more-eq0.false) in
    let g = c.well_formed in
    elim c.if-is_container.branch [ first_difference-then-is_container+in-NotCompared w ↦ omega arith | first_difference-then-is_container+in-Equal+else-left-c+in_default-below w ↦ omega arith | first_difference-else-is_container w ↦ omega arith ]

pub first_difference-overflow_sub-left-in-loop-left : goal.first_difference-overflow_sub-left-in-loop-left
first_difference-overflow_sub-left-in-loop-left t c =
    let b = left-bounds c.loop-left.invariant.1 c.loop-left-test.true (some_left _ c.if-more-eq0.false) in
    let g = c.well_formed in
    elim c.if-is_container.branch [ first_difference-then-is_container+in-NotCompared w ↦ omega arith | first_difference-then-is_container+in-Equal+else-left-c+in_default-below w ↦ omega arith | first_difference-else-is_container w ↦ omega arith ]

pub first_difference-overflow_mul-bt : goal.first_difference-overflow_mul-bt
first_difference-overflow_mul-bt t c =
    let b = left-bounds c.loop-left.invariant.1
    c.loop-left-test.true
    (some_left _ c.if-more-eq0.false) in
    let g = c.well_formed in
    elim c.if-is_container.branch [ first_difference-then-is_container+in-NotCompared w ↦ omega arith | first_difference-then-is_container+in-Equal+else-left-c+in_default-below w ↦ omega arith | first_difference-else-is_container w ↦ omega arith ]

pub first_difference-overflow_add-bt-in-loop-left : goal.first_difference-overflow_add-bt-in-loop-left
first_difference-overflow_add-bt-in-loop-left t c =
    let b = left-bounds c.loop-left.invariant.1
    c.loop-left-test.true
    (some_left _ c.if-more-eq0.false) in
    let g = c.well_formed in
    elim c.if-is_container.branch [ first_difference-then-is_container+in-NotCompared w ↦ omega arith | first_difference-then-is_container+in-Equal+else-left-c+in_default-below w ↦ omega arith | first_difference-else-is_container w ↦ omega arith ]

pub first_difference-overflow_sub-more-in-loop-left : goal.first_difference-overflow_sub-more-in-loop-left
first_difference-overflow_sub-more-in-loop-left t c =
    let b = left-bounds c.loop-left.invariant.1 c.loop-left-test.true (some_left _ c.if-more-eq0.false) in
    let g = c.well_formed in
    elim c.if-is_container.branch [ first_difference-then-is_container+in-NotCompared w ↦ omega arith | first_difference-then-is_container+in-Equal+else-left-c+in_default-below w ↦ omega arith | first_difference-else-is_container w ↦ omega arith ]

pub first_difference-loop-left-smaller : goal.first_difference-loop-left-smaller
first_difference-loop-left-smaller t c =
    let b = left-bounds c.loop-left.invariant.1 c.loop-left-test.true (some_left _ c.if-more-eq0.false) in
    let g = c.well_formed in
    elim c.if-is_container.branch [ first_difference-then-is_container+in-NotCompared w ↦ omega arith | first_difference-then-is_container+in-Equal+else-left-c+in_default-below w ↦ omega arith | first_difference-else-is_container w ↦ omega arith ]

pub first_difference-loop-left-preserved : goal.first_difference-loop-left-preserved
first_difference-loop-left-preserved t c =
    let b = left-bounds c.loop-left.invariant.1 c.loop-left-test.true (some_left _ c.if-more-eq0.false) in
    let e = (rw c.in_default.is at c.own_difference.ensures) in
    elim c.if-is_container.branch [
      | first_difference-then-is_container+in-NotCompared i ↦ (
        omega arith,
        left_over c.loop-left.invariant.1 c.loop-left-test.true (some_left _ c.if-more-eq0.false) e (sym c.is_container.ensures ∙ i.if-is_container.true) i.level_for.ensures
            (rw i.in-NotCompared.is at (i.compare_counts.ensures c.args.an.now c.args.bn.now)) i.c-is i.d-is c.level_after-here.ensures,
      )
      | first_difference-then-is_container+in-Equal+else-left-c+in_default-below i ↦ (
        omega arith,
        left_after c.loop-left.invariant.1 c.loop-left-test.true (some_left _ c.if-more-eq0.false) e (sym c.is_container.ensures ∙ i.if-is_container.true) i.level_for.ensures
            (rw i.in-Equal.is at (i.compare_counts.ensures c.args.an.now c.args.bn.now))
            (rw i.in_default-below.is at i.items_difference-below.ensures) i.c-is i.d-is c.level_after-here.ensures,
      )
      | first_difference-else-is_container i ↦ (
        omega arith,
        left-next c.loop-left.invariant.1 c.loop-left-test.true (some_left _ c.if-more-eq0.false) e (sym c.is_container.ensures ∙ i.if-is_container.false) i.c-is i.d-is
            c.level_after-here.ensures,
      )
    ]

pub first_difference-returns : goal.first_difference-returns
first_difference-returns t c = left_end c.loop-left.invariant.1 c.loop-left-test.false

pub items_difference-slice_bounds-first_difference-count : goal.items_difference-slice_bounds-first_difference-count
items_difference-slice_bounds-first_difference-count t c =
    let p = c.requires in
    let g = c.well_formed in
    omega arith

pub items_difference-slice_bounds-first_difference-count-2 : goal.items_difference-slice_bounds-first_difference-count-2
items_difference-slice_bounds-first_difference-count-2 t c =
    let p = c.requires in
    let g = c.well_formed in
    omega arith

pub items_difference-overflow_add-at : goal.items_difference-overflow_add-at
items_difference-overflow_add-at t c =
    let p = c.requires in
    let g = c.well_formed in
    omega arith

pub items_difference-overflow_sub-c : goal.items_difference-overflow_sub-c
items_difference-overflow_sub-c t c =
    let p = c.requires in
    let g = c.well_formed in
    omega arith

pub items_difference-slice_bounds-first_difference-count-3 : goal.items_difference-slice_bounds-first_difference-count-3
items_difference-slice_bounds-first_difference-count-3 t c =
    let p = c.requires in
    let g = c.well_formed in
    omega arith

pub items_difference-slice_bounds-first_difference-count-4 : goal.items_difference-slice_bounds-first_difference-count-4
items_difference-slice_bounds-first_difference-count-4 t c =
    let p = c.requires in
    let g = c.well_formed in
    omega arith

pub items_difference-overflow_add-bt : goal.items_difference-overflow_add-bt
items_difference-overflow_add-bt t c =
    let p = c.requires in
    let g = c.well_formed in
    omega arith

pub items_difference-overflow_sub-d : goal.items_difference-overflow_sub-d
items_difference-overflow_sub-d t c =
    let p = c.requires in
    let g = c.well_formed in
    omega arith

pub items_difference-first_difference-requires : goal.items_difference-first_difference-requires
items_difference-first_difference-requires t c = let p = c.requires in
    rw (whole, whole, whole, whole) (omega arith, ((p.c_nonzero.2, p.c_nonzero.3), p.kinds_and_names))

pub items_difference-returns : goal.items_difference-returns
items_difference-returns t c = rw (whole, whole, whole, whole) at c.first_difference.ensures
