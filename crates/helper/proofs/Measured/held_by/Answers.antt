use borrow.Author.Tests.{eq-eqb, ne_eqb}
use mathlib.Core.Path.{ap, sym, ◌∙◌}
use native.Mathlib.Omega.{arith}
use Rattle.helper.specs.Measure.{holding_measured, larger_measured}
use Rattle.helper.specs.declared.Measured.TheVariants.{Bytes}
use Rattle.helper.proofs.SizeLaws.{bits_fit}
use Rattle.helper.proofs.Measured.held_by.Goals as goal

pub returns-then-kind-eq-TYPED_BIT_FIELD : goal.returns-then-kind-eq-TYPED_BIT_FIELD
unfolding holding_measured
returns-then-kind-eq-TYPED_BIT_FIELD c =
    let a = c.args in
    rw (eq-eqb _ _ c.if-kind-eq-TYPED_BIT_FIELD.true) (c.larger.ensures ∙ ap (λ x. larger_measured x a.self) (ap Bytes c.bit_bytes.ensures ∙ sym (bits_fit a.second (omega arith))))

pub returns-then-kind-eq-ARRAY : goal.returns-then-kind-eq-ARRAY
unfolding holding_measured
returns-then-kind-eq-ARRAY c = rw (ne_eqb _ _ c.if-kind-eq-TYPED_BIT_FIELD.false, eq-eqb _ _ c.if-kind-eq-ARRAY.true) c.times.ensures

pub returns : goal.returns
unfolding holding_measured
returns c = rw (ne_eqb _ _ c.if-kind-eq-TYPED_BIT_FIELD.false, ne_eqb _ _ c.if-kind-eq-ARRAY.false)
