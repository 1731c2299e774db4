-- `static_str::node_len` meets its contract. Assumes nothing.
use Prim.Native.Nat.{ℕ, ◌+◌}
use mathlib.Core.Path.{ap, ap₂, sym, ◌∙◌}
use native.Mathlib.Omega.{arith}
use Rattle.kinds.proofs.KindLaws.{not-indirection}
use Rattle.static_str.proofs.NumberLaws.{decimal-fits}
use Rattle.static_str.proofs.PartLaws.{own-primitive, own-container, own-indirection, own_bits, own-typed, own-array, own-none}
use Rattle.static_str.proofs.node_len.Goals as goal

pub returns-then-kind-lt-PRIMITIVES : goal.returns-then-kind-lt-PRIMITIVES
returns-then-kind-lt-PRIMITIVES c = (
  λ s h. c.code_len.ensures.0 ∙ own-primitive s c.args.kind c.args.first c.args.second c.args.level c.if-kind-lt-PRIMITIVES.true,
  omega arith,
)

pub container_len-requires : goal.container_len-requires
container_len-requires c =
    c.requires (sym c.is_container.ensures ∙ c.if-is_container.true)

pub returns-then-is_container : goal.returns-then-is_container
returns-then-is_container c =
    let a = c.args in
    let k = sym c.is_container.ensures ∙ c.if-is_container.true in (
      λ s h. c.container_len.ensures.0 ∙ own-container s a.kind a.first a.second a.level c.if-kind-lt-PRIMITIVES.false k (h k),
      c.container_len.ensures.1,
    )

pub returns-then-is_indirection : goal.returns-then-is_indirection
returns-then-is_indirection c =
    let a = c.args in
    (λ s h. own-indirection s a.kind a.first a.second a.level (sym c.is_indirection.ensures ∙ c.if-is_indirection.true), omega arith)

pub overflow_add-result : goal.overflow_add-result
overflow_add-result c = omega (arith, decimal-fits c.args.second (omega arith))

pub returns-then-kind-eq-BIT_FIELD : goal.returns-then-kind-eq-BIT_FIELD
returns-then-kind-eq-BIT_FIELD c =
    let a = c.args in (
      λ s h. ap (λ (n : ℕ). 1 + n) c.static_int_str_len.ensures ∙ own_bits s a.kind a.first a.second a.level c.if-kind-eq-BIT_FIELD.true,
      omega (arith, decimal-fits a.second (omega arith)),
    )

pub overflow_add-result-then-kind-eq-TYPED_BIT_FIELD : goal.overflow_add-result-then-kind-eq-TYPED_BIT_FIELD
overflow_add-result-then-kind-eq-TYPED_BIT_FIELD c = omega (arith, decimal-fits c.args.first (omega arith))

pub overflow_add-result-then-kind-eq-TYPED_BIT_FIELD-2 : goal.overflow_add-result-then-kind-eq-TYPED_BIT_FIELD-2
overflow_add-result-then-kind-eq-TYPED_BIT_FIELD-2 c =
    omega (arith, decimal-fits c.args.first (omega arith), decimal-fits c.args.second (omega arith))

pub returns-then-kind-eq-TYPED_BIT_FIELD : goal.returns-then-kind-eq-TYPED_BIT_FIELD
returns-then-kind-eq-TYPED_BIT_FIELD c =
    let a = c.args in (
      λ s h. ap₂ (λ (m n : ℕ). 1 + m + n) c.static_int_str_len-then-kind-eq-TYPED_BIT_FIELD.ensures c.static_int_str_len-then-kind-eq-TYPED_BIT_FIELD-2.ensures
          ∙ own-typed s a.kind a.first a.second a.level c.if-kind-eq-TYPED_BIT_FIELD.true,
      omega (arith, decimal-fits a.first (omega arith), decimal-fits a.second (omega arith)),
    )

pub overflow_add-result-then-kind-eq-ARRAY : goal.overflow_add-result-then-kind-eq-ARRAY
overflow_add-result-then-kind-eq-ARRAY c = omega (arith, decimal-fits c.args.first (omega arith))

pub returns-then-kind-eq-ARRAY : goal.returns-then-kind-eq-ARRAY
returns-then-kind-eq-ARRAY c =
    let a = c.args in (
      λ s h. ap (λ (n : ℕ). 2 + n) c.static_int_str_len-then-kind-eq-ARRAY.ensures ∙ own-array s a.kind a.first a.second a.level c.if-kind-eq-ARRAY.true,
      omega (arith, decimal-fits a.first (omega arith)),
    )

pub returns : goal.returns
returns c =
    let a = c.args in
    let n = not-indirection a.kind (sym c.is_indirection.ensures ∙ c.if-is_indirection.false) in (
      λ s h. own-none s a.kind a.first a.second a.level c.if-kind-lt-PRIMITIVES.false (sym c.is_container.ensures ∙ c.if-is_container.false) c.if-kind-eq-BIT_FIELD.false
          c.if-kind-eq-TYPED_BIT_FIELD.false
          n.0 n.1 c.if-kind-eq-ARRAY.false,
      omega arith,
    )
