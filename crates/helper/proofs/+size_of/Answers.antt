use Prim.Native.Nat.{ℕ, ◌<◌}
use borrow.Author.Tests.{not-false}
use mathlib.Core.Path.{◌≡◌, sym, ap, ◌∙◌}
use native.Mathlib.Omega.{arith}
use Prim.Native.Nat.{◌+◌, ◌-◌, ◌≤◌}
use mathlib.Core.List.{[]}
use mathlib.Core.Logic.{⊎_elim}
use Rattle.kinds.specs.Sheet.{kind_at}
use Rattle.kinds.proofs.KindLaws.{inside-kind, container-kind, included}
use Rattle.kinds.proofs.ListLaws.{whole}
use Rattle.kinds.proofs.NodeLaws.{node-inner, child-count, node-child}
use Rattle.helper.specs.Measure.{clip, holding_measured, fold, size_at}
use Rattle.helper.proofs.SizeLaws.{clip-holding, join-unit}
use Rattle.helper.proofs.NodeSizeLaws.{gathered-end, gathered-node, gathered-within, gathered-turn, gathered-code, gathered-inner, low-leaf, size-leaf, leaf-entry, not-leaf, size-held, size-dropped, size-included}
use Rattle.helper.proofs.+size_of.Goals as goal
use Rattle.helper.proofs.+size_of.Goals.{then-not-is_leaf, else-not-is_leaf}

pub returns-then-is_leaf : goal.returns-then-is_leaf
returns-then-is_leaf t c =
    let a = c.args in
    λ m o s. c.leaf_size.ensures ∙ ap clip (leaf-entry o _ _) ∙ sym (ap clip (size-leaf m s a.nodes.now a.at a.level
    (sym c.is_leaf.ensures ∙ c.if-is_leaf.true)))

pub size_of-item-requires : goal.size_of-item-requires
size_of-item-requires t c =
    let a = c.args in
    let pre = c.requires in
    let n = not-leaf (kind_at a.nodes.now a.at) (sym c.is_leaf.ensures ∙ c.if-is_leaf.false) in
    let lo : 25 ≤ kind_at a.nodes.now a.at = omega arith in
    let hi : kind_at a.nodes.now a.at ≤ 28 = omega arith in
    let k = child-count _ _ pre lo hi in
    rw whole (omega arith, node-child _ _ pre lo hi)

pub returns-then-kind-lt-STRUCT : goal.returns-then-kind-lt-STRUCT
returns-then-kind-lt-STRUCT t c =
    let a = c.args in
    let pre = c.requires in
    let n = not-leaf (kind_at a.nodes.now a.at) (sym c.is_leaf.ensures
    ∙ c.if-is_leaf.false) in
    let lo : 25 ≤ kind_at a.nodes.now a.at = omega arith in
    let hi : kind_at a.nodes.now a.at ≤ 28 = omega arith in
    λ m o s. c.held_by.ensures
    ∙ ap (holding_measured _ _ _) ((rw whole at (c.size_of-item.ensures m o s))
    ∙ ap (λ v. clip (size_at m s a.nodes.now (a.at + 4) v)) (c.inside.ensures ∙ sym (inside-kind s _ _ _ _)))
    ∙ clip-holding _ _ _ _
    ∙ sym (ap clip (size-held m s a.nodes.now a.at pre lo hi a.level n.2))

pub returns-in_default : goal.returns-in_default
unfolding clip
returns-in_default t c =
    let a = c.args in
    let n = not-leaf (kind_at a.nodes.now a.at) (sym c.is_leaf.ensures
    ∙ c.if-is_leaf.false) in
    λ m o s. sym (ap clip (size-dropped m s a.nodes.now a.at a.level (container-kind (kind_at a.nodes.now a.at) (omega arith) (omega arith))
    (sym c.container_include_fields.ensures ∙ c.in_default.is)))

pub loop-left-init : goal.loop-left-init
loop-left-init t c =
    let pre = c.requires in
    let a = c.args in
    let o = pre.some-node in (
      omega arith,
      record {
        there = node-inner _ _ pre;
        rest = λ m o s.
            (fold (kind_at a.nodes.now a.at) [], c.of_no_fields-all.ensures, join-unit _ _);
      },
    )

pub offset_bounds-nodes-child : goal.offset_bounds-nodes-child
offset_bounds-nodes-child t c = let b = gathered-within c.loop-left.invariant.1 c.loop-left-test.true in omega arith

pub bounds-nodes-child : goal.bounds-nodes-child
bounds-nodes-child t c = let b = gathered-within c.loop-left.invariant.1 c.loop-left-test.true in omega arith

pub overflow_add-child-then-field-lt-TYPED_BIT_FIELD : goal.overflow_add-child-then-field-lt-TYPED_BIT_FIELD
overflow_add-child-then-field-lt-TYPED_BIT_FIELD t c = let b = gathered-within c.loop-left.invariant.1 c.loop-left-test.true in omega arith

pub offset_bounds-nodes-child-then-field-lt-TYPED_BIT_FIELD : goal.offset_bounds-nodes-child-then-field-lt-TYPED_BIT_FIELD
offset_bounds-nodes-child-then-field-lt-TYPED_BIT_FIELD t c = let b = gathered-within c.loop-left.invariant.1 c.loop-left-test.true in omega arith

pub bounds-nodes-child-then-field-lt-TYPED_BIT_FIELD : goal.bounds-nodes-child-then-field-lt-TYPED_BIT_FIELD
bounds-nodes-child-then-field-lt-TYPED_BIT_FIELD t c = let b = gathered-within c.loop-left.invariant.1
    c.loop-left-test.true in omega arith

pub overflow_add-child-then-field-lt-TYPED_BIT_FIELD-2 : goal.overflow_add-child-then-field-lt-TYPED_BIT_FIELD-2
overflow_add-child-then-field-lt-TYPED_BIT_FIELD-2 t c = let b = gathered-within c.loop-left.invariant.1
    c.loop-left-test.true in omega arith

pub overflow_sub-left-then-field-lt-TYPED_BIT_FIELD : goal.overflow_sub-left-then-field-lt-TYPED_BIT_FIELD
overflow_sub-left-then-field-lt-TYPED_BIT_FIELD t c = let b = gathered-within c.loop-left.invariant.1
    c.loop-left-test.true in omega arith

pub loop-left-smaller-then-field-lt-TYPED_BIT_FIELD : goal.loop-left-smaller-then-field-lt-TYPED_BIT_FIELD
loop-left-smaller-then-field-lt-TYPED_BIT_FIELD t c = let b = gathered-within c.loop-left.invariant.1
    c.loop-left-test.true in omega arith

pub loop-left-preserved-then-field-lt-TYPED_BIT_FIELD : goal.loop-left-preserved-then-field-lt-TYPED_BIT_FIELD
loop-left-preserved-then-field-lt-TYPED_BIT_FIELD t c =
    let a = c.args in
    let b = gathered-within c.loop-left.invariant.1 c.loop-left-test.true in
    let k : kind_at a.nodes.now c.loop-left.child < 25 = omega arith in (
      omega arith,
      gathered-code c.loop-left.invariant.1 c.loop-left-test.true k
          c.leaf_size-then-field-lt-TYPED_BIT_FIELD.result
          (λ m o s. c.leaf_size-then-field-lt-TYPED_BIT_FIELD.ensures ∙ ap clip (leaf-entry o _ _) ∙ sym (ap clip
          (size-leaf m s a.nodes.now c.loop-left.child _ (low-leaf _ k)))) c.join-all.ensures,
    )

pub overflow_add-child-then-field-kind : goal.overflow_add-child-then-field-kind
overflow_add-child-then-field-kind t c = let b = gathered-within c.loop-left.invariant.1 c.loop-left-test.true in omega arith

pub overflow_sub-left-then-field-kind : goal.overflow_sub-left-then-field-kind
overflow_sub-left-then-field-kind t c = let b = gathered-within c.loop-left.invariant.1 c.loop-left-test.true in omega arith

pub loop-left-smaller-then-field-kind : goal.loop-left-smaller-then-field-kind
loop-left-smaller-then-field-kind t c = let b = gathered-within c.loop-left.invariant.1 c.loop-left-test.true in omega arith

pub loop-left-preserved-then-field-kind : goal.loop-left-preserved-then-field-kind
loop-left-preserved-then-field-kind t c =
    let a = c.args in
    let n = not-leaf (kind_at a.nodes.now a.at) (sym
    c.is_leaf.ensures
    ∙ c.if-is_leaf.false) in
    let b = gathered-within c.loop-left.invariant.1 c.loop-left-test.true in
    let k : kind_at a.nodes.now c.loop-left.child ≡ kind_at a.nodes.now a.at = omega arith in (
      omega arith,
      gathered-inner c.loop-left.invariant.1 c.loop-left-test.true
          (container-kind (kind_at a.nodes.now a.at) (omega arith) (omega arith)) k
          (included a.level _ (sym c.container_include_fields.ensures
          ∙ c.in-Some.is)).1,
    )

pub overflow_add-child-in-loop-left : goal.overflow_add-child-in-loop-left
overflow_add-child-in-loop-left t c = let b = gathered-within c.loop-left.invariant.1 c.loop-left-test.true
    in omega arith

pub offset_bounds-nodes-child-in-loop-left : goal.offset_bounds-nodes-child-in-loop-left
offset_bounds-nodes-child-in-loop-left t c = let b = gathered-within c.loop-left.invariant.1 c.loop-left-test.true
    in omega arith

pub bounds-nodes-child-in-loop-left : goal.bounds-nodes-child-in-loop-left
bounds-nodes-child-in-loop-left t c = let b = gathered-within c.loop-left.invariant.1
    c.loop-left-test.true in omega arith

pub size_of-item-requires-then-not-is_leaf : goal.size_of-item-requires-then-not-is_leaf
size_of-item-requires-then-not-is_leaf t c =
    let b = gathered-within c.loop-left.invariant.1
    c.loop-left-test.true in
    rw whole (
      omega arith,
      gathered-node c.loop-left.invariant.1
          c.loop-left-test.true,
    )

pub overflow_add-count : goal.overflow_add-count
overflow_add-count t c = let b = gathered-within c.loop-left.invariant.1
    c.loop-left-test.true in omega arith

pub bounds-nodes-child-in-loop-left-2 : goal.bounds-nodes-child-in-loop-left-2
bounds-nodes-child-in-loop-left-2 t c = let b = gathered-within c.loop-left.invariant.1
    c.loop-left-test.true in omega arith

pub overflow_mul-child : goal.overflow_mul-child
overflow_mul-child t c = let b = gathered-within c.loop-left.invariant.1
    c.loop-left-test.true in omega arith

pub overflow_add-child-in-loop-left-2 : goal.overflow_add-child-in-loop-left-2
overflow_add-child-in-loop-left-2 t c = let b = gathered-within c.loop-left.invariant.1
    c.loop-left-test.true in omega arith

pub overflow_sub-left-in-loop-left : goal.overflow_sub-left-in-loop-left
overflow_sub-left-in-loop-left t c = let b = gathered-within c.loop-left.invariant.1
    c.loop-left-test.true in omega arith

pub loop-left-smaller : goal.loop-left-smaller
loop-left-smaller t c = let b = gathered-within c.loop-left.invariant.1
    c.loop-left-test.true in omega arith

pub loop-left-preserved : goal.loop-left-preserved
loop-left-preserved t c =
    let a = c.args in
    let b = gathered-within c.loop-left.invariant.1 c.loop-left-test.true in (
      omega arith,
      gathered-turn c.loop-left.invariant.1
          c.loop-left-test.true c.if-not-is_leaf.item
          (λ m o s. elim c.if-not-is_leaf.branch [
            | then-not-is_leaf w ↦ w.item-is ∙ (rw whole at (w.size_of-item-then-not-is_leaf.ensures m o s))
            | else-not-is_leaf w ↦ w.item-is ∙ c.leaf_size-item.ensures ∙ ap clip (leaf-entry o _ _)
                ∙ sym (ap clip (size-leaf m s a.nodes.now c.loop-left.child _ (sym c.is_leaf-in-loop-left.ensures ∙ w.if-not-is_leaf.false)))
          ]) c.join-all-in-loop-left.ensures,
    )

pub returns : goal.returns
returns t c =
    let a = c.args in
    let n = not-leaf (kind_at a.nodes.now a.at) (sym c.is_leaf.ensures
    ∙ c.if-is_leaf.false) in
    λ m o s. gathered-end c.loop-left.invariant.1 c.loop-left-test.false m o s
    ∙ ap clip (size-included m s a.nodes.now a.at a.level (container-kind (kind_at a.nodes.now a.at) (omega arith) (omega arith)) _
    (sym c.container_include_fields.ensures
    ∙ c.in-Some.is))
