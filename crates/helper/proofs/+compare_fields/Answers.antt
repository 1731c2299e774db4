use Prim.Native.Nat.{ℕ}
use mathlib.Core.Path.{sym, ◌∙◌}
use native.Mathlib.Omega.{arith}
use Rattle.kinds.proofs.ListLaws.{whole}
use Rattle.kinds.proofs.NodeLaws.{walk_here}
use Rattle.helper.proofs.CompareLaws.{resume-level, fields-none, fields-some, both_some, left-bounds, left-stop, left-differ, left-fields, left-inner, left_after, left-last, left-next}
use Rattle.helper.proofs.+compare_fields.Goals as goal
use Rattle.helper.proofs.+compare_fields.Goals.{then-is_container+else-fields_last+else-not-compare_fields, else-is_container}

pub returns-then-either_none : goal.returns-then-either_none
returns-then-either_none t c =
    let a = c.args in
    sym (fields-none a.all a.level a.an.now a.a.now a.bn.now a.b.now a.left a.more a.at a.bt
    (sym c.either_none.ensures ∙ c.if-either_none.true))

pub loop-level-init : goal.loop-level-init
loop-level-init t c =
    let pre = c.requires in
    let a = c.args in
    let s = both_some _ _ (sym c.either_none.ensures ∙ c.if-either_none.false) in (
      omega arith,
      record {
        first = pre.trees_at.0;
        second = pre.trees_at.1;
        first_walk = pre.kinds_and_names.0;
        second_walk = pre.kinds_and_names.1;
        rest = resume-level _ _ _ _
            ∙ sym (fields-some a.all a.level a.an.now a.a.now a.bn.now a.b.now a.left a.more a.at a.bt s.0 s.1);
      },
    )

pub compare_labels-requires : goal.compare_labels-requires
compare_labels-requires t c = let s = both_some _ _ (sym c.either_none-in-loop-level.ensures ∙ c.loop-level-test.true) in
    let l = c.loop-level in
    let b = left-bounds l.invariant.1 s.0 s.1 in record { at_in_bounds = (omega arith, omega arith); kind_and_name = (walk_here _ _ _ _ l.invariant.1.first_walk s.0, walk_here _ _ _ _ l.invariant.1.second_walk s.1) }

pub returns-then-not-compare_labels : goal.returns-then-not-compare_labels
returns-then-not-compare_labels t c =
    let s = both_some _ _ (sym c.either_none-in-loop-level.ensures ∙ c.loop-level-test.true) in
    left-differ c.loop-level.invariant.1 s.0 s.1 (sym c.compare_labels.ensures ∙ c.if-not-compare_labels.true)

pub offset_bounds-a-at : goal.offset_bounds-a-at
offset_bounds-a-at t c =
    let s = both_some _ _ (sym c.either_none-in-loop-level.ensures ∙ c.loop-level-test.true) in
    let good = c.well_formed in
    let l = c.loop-level in
    let b = left-bounds l.invariant.1 s.0 s.1 in
    let g = good.1.1.1.1.0.0 in
    omega arith

pub bounds-a-at : goal.bounds-a-at
bounds-a-at t c =
    let s = both_some _ _ (sym c.either_none-in-loop-level.ensures ∙ c.loop-level-test.true) in
    let good = c.well_formed in
    let l = c.loop-level in
    let b = left-bounds l.invariant.1 s.0 s.1 in
    let g = good.1.1.1.1.0.0 in
    omega arith

pub overflow_add-c : goal.overflow_add-c
overflow_add-c t c =
    let s = both_some _ _ (sym c.either_none-in-loop-level.ensures ∙ c.loop-level-test.true) in
    let good = c.well_formed in
    let l = c.loop-level in
    let b = left-bounds l.invariant.1 s.0 s.1 in
    let g = good.1.1.1.1.0.0 in
    omega arith

pub offset_bounds-a-at-then-is_container : goal.offset_bounds-a-at-then-is_container
offset_bounds-a-at-then-is_container t c =
    let s = both_some _ _ (sym c.either_none-in-loop-level.ensures ∙ c.loop-level-test.true) in
    let good = c.well_formed in
    let l = c.loop-level in
    let b = left-bounds l.invariant.1 s.0 s.1 in
    let g = good.1.1.1.1.0.0 in
    omega arith

pub bounds-a-at-then-is_container : goal.bounds-a-at-then-is_container
bounds-a-at-then-is_container t c =
    let s = both_some _ _ (sym c.either_none-in-loop-level.ensures ∙ c.loop-level-test.true) in
    let good = c.well_formed in
    let l = c.loop-level in
    let b = left-bounds l.invariant.1 s.0 s.1 in
    let g = good.1.1.1.1.0.0 in
    omega arith

pub overflow_add-d : goal.overflow_add-d
overflow_add-d t c =
    let s = both_some _ _ (sym c.either_none-in-loop-level.ensures ∙ c.loop-level-test.true) in
    let good = c.well_formed in
    let l = c.loop-level in
    let b = left-bounds l.invariant.1 s.0 s.1 in
    let g = good.1.1.1.1.0.0 in
    omega arith

pub offset_bounds-b-bt : goal.offset_bounds-b-bt
offset_bounds-b-bt t c =
    let s = both_some _ _ (sym c.either_none-in-loop-level.ensures ∙ c.loop-level-test.true) in
    let good = c.well_formed in
    let l = c.loop-level in
    let b = left-bounds l.invariant.1 s.0 s.1 in
    let g = good.1.1.1.1.0.0 in
    omega arith

pub bounds-b-bt : goal.bounds-b-bt
bounds-b-bt t c =
    let s = both_some _ _ (sym c.either_none-in-loop-level.ensures ∙ c.loop-level-test.true) in
    let good = c.well_formed in
    let l = c.loop-level in
    let b = left-bounds l.invariant.1 s.0 s.1 in
    let g = good.1.1.1.1.0.0 in
    omega arith

pub overflow_sub-c : goal.overflow_sub-c
overflow_sub-c t c =
    let s = both_some _ _ (sym c.either_none-in-loop-level.ensures ∙ c.loop-level-test.true) in
    let good = c.well_formed in
    let l = c.loop-level in
    let b = left-bounds l.invariant.1 s.0 s.1 in
    let g = good.1.1.1.1.0.0 in
    omega arith

pub overflow_sub-m : goal.overflow_sub-m
overflow_sub-m t c =
    let s = both_some _ _ (sym c.either_none-in-loop-level.ensures
    ∙ c.loop-level-test.true) in
    let good = c.well_formed in
    let l = c.loop-level in
    let b = left-bounds l.invariant.1 s.0 s.1 in
    let g = good.1.1.1.1.0.0 in
    omega arith

pub overflow_add-i : goal.overflow_add-i
overflow_add-i t c =
    let s = both_some _ _ (sym c.either_none-in-loop-level.ensures
    ∙ c.loop-level-test.true) in
    let good = c.well_formed in
    let l = c.loop-level in
    let b = left-bounds l.invariant.1 s.0 s.1 in
    let g = good.1.1.1.1.0.0 in
    omega arith

pub overflow_add-j : goal.overflow_add-j
overflow_add-j t c =
    let s = both_some _ _ (sym c.either_none-in-loop-level.ensures
    ∙ c.loop-level-test.true) in
    let good = c.well_formed in
    let l = c.loop-level in
    let b = left-bounds l.invariant.1 s.0 s.1 in
    let g = good.1.1.1.1.0.0 in
    omega arith

pub overflow_sub-left : goal.overflow_sub-left
overflow_sub-left t c =
    let s = both_some _ _ (sym c.either_none-in-loop-level.ensures
    ∙ c.loop-level-test.true) in
    let good = c.well_formed in
    let l = c.loop-level in
    let b = left-bounds l.invariant.1 s.0 s.1 in
    let g = good.1.1.1.1.0.0 in
    omega arith

pub overflow_sub-more : goal.overflow_sub-more
overflow_sub-more t c =
    let s = both_some _ _ (sym c.either_none-in-loop-level.ensures
    ∙ c.loop-level-test.true) in
    let good = c.well_formed in
    let l = c.loop-level in
    let b = left-bounds l.invariant.1 s.0 s.1 in
    let g = good.1.1.1.1.0.0 in
    omega arith

pub loop-level-smaller-then-fields_last : goal.loop-level-smaller-then-fields_last
loop-level-smaller-then-fields_last t c =
    let s = both_some _ _ (sym c.either_none-in-loop-level.ensures
    ∙ c.loop-level-test.true) in
    let i = left-inner c.loop-level.invariant.1
    s.0 s.1
    (sym c.compare_labels.ensures
    ∙ c.if-not-compare_labels.false) (sym c.is_container.ensures
    ∙ c.if-is_container.true) c.level_for.ensures c.shown_count-n.ensures in let j = i.0 in omega arith

pub loop-level-preserved-then-fields_last : goal.loop-level-preserved-then-fields_last
loop-level-preserved-then-fields_last t c =
    let s = both_some _ _ (sym c.either_none-in-loop-level.ensures
    ∙ c.loop-level-test.true) in
    let b = left-bounds c.loop-level.invariant.1
    s.0 s.1 in
    let i = left-inner c.loop-level.invariant.1
    s.0 s.1
    (sym c.compare_labels.ensures
    ∙ c.if-not-compare_labels.false) (sym c.is_container.ensures
    ∙ c.if-is_container.true) c.level_for.ensures c.shown_count-n.ensures in
    let j = i.0 in
    let f = c.fields_last.ensures c.if-fields_last.true in (
      omega arith,
      left-last c.loop-level.invariant.1
          s.0 s.1
          (sym c.compare_labels.ensures
          ∙ c.if-not-compare_labels.false) (sym c.is_container.ensures
          ∙ c.if-is_container.true) c.level_for.ensures c.shown_count-n.ensures (omega arith) (omega arith) f.2 f.3,
    )

pub compare_fields-requires : goal.compare_fields-requires
compare_fields-requires t c =
    let s = both_some _ _
    (sym c.either_none-in-loop-level.ensures
    ∙ c.loop-level-test.true) in
    let i = left-inner
    c.loop-level.invariant.1
    s.0 s.1
    (sym c.compare_labels.ensures
    ∙ c.if-not-compare_labels.false)
    (sym c.is_container.ensures
    ∙ c.if-is_container.true)
    c.level_for.ensures
    c.shown_count-n.ensures in
    let j = i.0 in
    rw (whole, whole, whole, whole) (omega arith, (i.1, i.2))

pub returns-then-not-compare_fields : goal.returns-then-not-compare_fields
returns-then-not-compare_fields t c =
    let s = both_some _ _
    (sym c.either_none-in-loop-level.ensures
    ∙ c.loop-level-test.true) in
    left-fields
    c.loop-level.invariant.1
    s.0 s.1
    (sym c.compare_labels.ensures
    ∙ c.if-not-compare_labels.false)
    (sym c.is_container.ensures
    ∙ c.if-is_container.true)
    c.level_for.ensures c.shown_count-n.ensures
    (sym (rw (whole, whole, whole, whole) at c.compare_fields.ensures) ∙ c.if-not-compare_fields.true)

pub overflow_mul-at : goal.overflow_mul-at
overflow_mul-at t c =
    let s = both_some _ _ (sym c.either_none-in-loop-level.ensures ∙ c.loop-level-test.true) in
    let good = c.well_formed in
    let l = c.loop-level in
    let b = left-bounds l.invariant.1 s.0 s.1 in
    let g = good.1.1.1.1.0.0 in
    elim c.if-is_container.branch [ then-is_container+else-fields_last+else-not-compare_fields w ↦ omega arith | else-is_container w ↦ omega arith ]

pub overflow_add-at : goal.overflow_add-at
overflow_add-at t c =
    let s = both_some _ _ (sym c.either_none-in-loop-level.ensures ∙ c.loop-level-test.true) in
    let good = c.well_formed in
    let l = c.loop-level in
    let b = left-bounds l.invariant.1 s.0 s.1 in
    let g = good.1.1.1.1.0.0 in
    elim c.if-is_container.branch [ then-is_container+else-fields_last+else-not-compare_fields w ↦ omega arith | else-is_container w ↦ omega arith ]

pub overflow_sub-left-in-loop-level : goal.overflow_sub-left-in-loop-level
overflow_sub-left-in-loop-level t c =
    let s = both_some _ _ (sym c.either_none-in-loop-level.ensures ∙ c.loop-level-test.true) in
    let good = c.well_formed in
    let l = c.loop-level in
    let b = left-bounds l.invariant.1 s.0 s.1 in
    let g = good.1.1.1.1.0.0 in
    elim c.if-is_container.branch [ then-is_container+else-fields_last+else-not-compare_fields w ↦ omega arith | else-is_container w ↦ omega arith ]

pub overflow_mul-bt : goal.overflow_mul-bt
overflow_mul-bt t c =
    let s = both_some _ _ (sym c.either_none-in-loop-level.ensures ∙ c.loop-level-test.true) in
    let good = c.well_formed in
    let l = c.loop-level in
    let b = left-bounds l.invariant.1 s.0 s.1 in
    let g = good.1.1.1.1.0.0 in
    elim c.if-is_container.branch [ then-is_container+else-fields_last+else-not-compare_fields w ↦ omega arith | else-is_container w ↦ omega arith ]

pub overflow_add-bt : goal.overflow_add-bt
overflow_add-bt t c =
    let s = both_some _ _ (sym c.either_none-in-loop-level.ensures ∙ c.loop-level-test.true) in
    let good = c.well_formed in
    let l = c.loop-level in
    let b = left-bounds l.invariant.1 s.0 s.1 in
    let g = good.1.1.1.1.0.0 in
    elim c.if-is_container.branch [ then-is_container+else-fields_last+else-not-compare_fields w ↦ omega arith | else-is_container w ↦ omega arith ]

pub overflow_sub-more-in-loop-level : goal.overflow_sub-more-in-loop-level
overflow_sub-more-in-loop-level t c =
    let s = both_some _ _ (sym c.either_none-in-loop-level.ensures ∙ c.loop-level-test.true) in
    let good = c.well_formed in
    let l = c.loop-level in
    let b = left-bounds l.invariant.1 s.0 s.1 in
    let g = good.1.1.1.1.0.0 in
    elim c.if-is_container.branch [ then-is_container+else-fields_last+else-not-compare_fields w ↦ omega arith | else-is_container w ↦ omega arith ]

pub loop-level-smaller : goal.loop-level-smaller
loop-level-smaller t c =
    let s = both_some _ _ (sym c.either_none-in-loop-level.ensures ∙ c.loop-level-test.true) in
    let good = c.well_formed in
    let l = c.loop-level in
    let b = left-bounds l.invariant.1 s.0 s.1 in
    let g = good.1.1.1.1.0.0 in
    elim c.if-is_container.branch [ then-is_container+else-fields_last+else-not-compare_fields w ↦ omega arith | else-is_container w ↦ omega arith ]

pub loop-level-preserved : goal.loop-level-preserved
loop-level-preserved t c =
    let s = both_some _ _ (sym c.either_none-in-loop-level.ensures ∙ c.loop-level-test.true) in
    let b = left-bounds c.loop-level.invariant.1 s.0 s.1 in
    elim c.if-is_container.branch [
      | then-is_container+else-fields_last+else-not-compare_fields w ↦ (
        omega arith,
        left_after c.loop-level.invariant.1
            s.0 s.1
            (sym c.compare_labels.ensures ∙ c.if-not-compare_labels.false)
            (sym c.is_container.ensures ∙ w.if-is_container.true) w.level_for.ensures w.shown_count-n.ensures
            (sym (rw (whole, whole, whole, whole) at w.compare_fields.ensures) ∙ w.if-not-compare_fields.false)
            w.c-is w.d-is c.level_after-here.ensures,
      )
      | else-is_container w ↦ (
        omega arith,
        left-next c.loop-level.invariant.1
            s.0 s.1
            (sym c.compare_labels.ensures ∙ c.if-not-compare_labels.false)
            (sym c.is_container.ensures ∙ w.if-is_container.false) w.c-is w.d-is c.level_after-here.ensures,
      )
    ]

pub returns : goal.returns
returns t c =
    left-stop c.loop-level.invariant.1 (sym c.either_none-in-loop-level.ensures ∙ c.loop-level-test.false)
