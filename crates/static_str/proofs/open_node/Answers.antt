-- `static_str::open_node` meets its contract. Assumes nothing.
use Rattle.static_str.proofs.PartLaws.{opening-primitive, opening-slice, opening-bits, opening-typed, opening-pointer, opening-atomic, opening-array, opening-none}
use Prim.Native.Nat.{ℕ}
use mathlib.Core.Path.{ap, sym, ◌∙◌}
use mathlib.Core.List.{[], ◌∷◌}
use native.Mathlib.Omega.{arith}
use lib.ListN.{length}
use Rattle.kinds.proofs.KindLaws.{only-atomic}
use Rattle.static_str.proofs.OutputLaws.{wrote-same, wrote_none}
use Rattle.static_str.proofs.open_node.Goals as goal

pub put_code-requires : goal.put_code-requires
put_code-requires c =
    let a = c.args in omega (
      arith,
      ap length (opening-primitive a.names.now a.kind a.first a.second a.level c.if-kind-lt-PRIMITIVES.true),
      c.requires.room,
    )

pub returns-then-kind-lt-PRIMITIVES : goal.returns-then-kind-lt-PRIMITIVES
returns-then-kind-lt-PRIMITIVES c =
    let a = c.args in wrote-same (sym (opening-primitive a.names.now a.kind a.first a.second a.level c.if-kind-lt-PRIMITIVES.true))
    c.put_code.ensures

pub put_tagged-requires : goal.put_tagged-requires
put_tagged-requires c =
    let a = c.args in omega (
      arith,
      ap length (opening-array a.names.now a.kind a.first a.second a.level c.if-kind-eq-ARRAY.true),
      c.requires.room,
    )

pub returns-then-kind-eq-ARRAY : goal.returns-then-kind-eq-ARRAY
returns-then-kind-eq-ARRAY c =
    let a = c.args in wrote-same (sym (opening-array a.names.now a.kind a.first a.second a.level c.if-kind-eq-ARRAY.true))
    c.put_tagged.ensures

pub overflow_add-to : goal.overflow_add-to
overflow_add-to c =
    omega (arith, c.requires.name_within (sym c.is_container.ensures ∙ c.if-is_container.true))

pub slice_bounds-open_container-end : goal.slice_bounds-open_container-end
slice_bounds-open_container-end c =
    omega (arith, c.requires.name_within (sym c.is_container.ensures ∙ c.if-is_container.true))

pub open_container-requires : goal.open_container-requires
open_container-requires c =
    let a = c.args in omega (
      arith,
      ap length (opening-slice a.names.now a.kind a.first a.second a.level _ c.container_of.ensures
          c.if-kind-lt-PRIMITIVES.false (sym c.is_container.ensures ∙ c.if-is_container.true)),
      c.requires.room,
    )

pub returns-then-is_container : goal.returns-then-is_container
returns-then-is_container c =
    let a = c.args in wrote-same (opening-slice a.names.now a.kind a.first a.second a.level _ c.container_of.ensures c.if-kind-lt-PRIMITIVES.false
    (sym c.is_container.ensures ∙ c.if-is_container.true)) c.open_container.ensures

pub returns-then-kind-ge-ARRAY : goal.returns-then-kind-ge-ARRAY
returns-then-kind-ge-ARRAY c =
    let a = c.args in
    let k = c.if-kind-ge-ARRAY.true in
    wrote-same (sym (opening-none a.names.now a.kind a.first a.second a.level (omega arith)
    (sym c.is_container.ensures ∙ c.if-is_container.false)
    (λ e. omega arith) (λ e. omega arith) (λ e. omega arith) (λ e. omega arith) c.if-kind-eq-ARRAY.false)) (wrote_none a.out.now a.at)

pub put_tagged-requires-then-kind-eq-BIT_FIELD : goal.put_tagged-requires-then-kind-eq-BIT_FIELD
put_tagged-requires-then-kind-eq-BIT_FIELD c =
    let a = c.args in omega (arith, ap length (opening-bits a.names.now a.kind a.first a.second a.level c.if-kind-eq-BIT_FIELD.true), c.requires.room)

pub returns-then-kind-eq-BIT_FIELD : goal.returns-then-kind-eq-BIT_FIELD
returns-then-kind-eq-BIT_FIELD c =
    let a = c.args in wrote-same (sym (opening-bits a.names.now a.kind a.first a.second a.level c.if-kind-eq-BIT_FIELD.true)) c.put_tagged-then-kind-eq-BIT_FIELD.ensures

pub put_tagged-requires-then-kind-eq-TYPED_BIT_FIELD : goal.put_tagged-requires-then-kind-eq-TYPED_BIT_FIELD
put_tagged-requires-then-kind-eq-TYPED_BIT_FIELD c =
    let a = c.args in omega (arith, ap length (opening-typed a.names.now a.kind a.first a.second a.level c.if-kind-eq-TYPED_BIT_FIELD.true), c.requires.room)

pub returns-then-kind-eq-TYPED_BIT_FIELD : goal.returns-then-kind-eq-TYPED_BIT_FIELD
returns-then-kind-eq-TYPED_BIT_FIELD c =
    let a = c.args in wrote-same (sym (opening-typed a.names.now a.kind a.first a.second a.level c.if-kind-eq-TYPED_BIT_FIELD.true))
    c.put_tagged-then-kind-eq-TYPED_BIT_FIELD.ensures

pub put-requires : goal.put-requires
put-requires c =
    let a = c.args in omega (arith, ap length (opening-pointer a.names.now a.kind a.first a.second a.level c.if-kind-eq-POINTER.true), c.requires.room)

pub returns-then-kind-eq-POINTER : goal.returns-then-kind-eq-POINTER
returns-then-kind-eq-POINTER c =
    let a = c.args in wrote-same (sym (opening-pointer a.names.now a.kind a.first a.second a.level c.if-kind-eq-POINTER.true))
    (wrote-same (ap (λ (x : ℕ). x ∷ []) c.prefix_byte.ensures) c.put.ensures)

pub put-requires-2 : goal.put-requires-2
put-requires-2 c =
    let a = c.args in omega (
      arith,
      ap length (opening-atomic a.names.now a.kind a.first a.second a.level
          (only-atomic _ c.if-kind-lt-PRIMITIVES.false c.if-kind-ge-ARRAY.false c.if-kind-eq-BIT_FIELD.false c.if-kind-eq-TYPED_BIT_FIELD.false c.if-kind-eq-POINTER.false)),
      c.requires.room,
    )

pub returns : goal.returns
returns c =
    let a = c.args in wrote-same (sym (opening-atomic a.names.now a.kind a.first a.second a.level
    (only-atomic _ c.if-kind-lt-PRIMITIVES.false c.if-kind-ge-ARRAY.false c.if-kind-eq-BIT_FIELD.false c.if-kind-eq-TYPED_BIT_FIELD.false c.if-kind-eq-POINTER.false)))
    (wrote-same (ap (λ (x : ℕ). x ∷ []) c.prefix_byte-2.ensures) c.put-2.ensures)
