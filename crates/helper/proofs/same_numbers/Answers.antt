use borrow.Author.Tests.{eq-eqb, ne_eqb}
use mathlib.Core.Path.{sym, ◌∙◌}
use Rattle.helper.proofs.CompareLaws.{labels-bits, labels-typed, labels-array, labels-plain}
use Rattle.helper.proofs.same_numbers.Goals as goal

pub returns-then-kind-eq-BIT_FIELD : goal.returns-then-kind-eq-BIT_FIELD
returns-then-kind-eq-BIT_FIELD c = λ s t. sym (labels-bits s t _ _ _ _ _ c.if-kind-eq-BIT_FIELD.true)

pub returns-then-af-bf : goal.returns-then-af-bf
returns-then-af-bf c = λ s t. sym (labels-typed s t _ _ _ _ _ c.if-kind-eq-TYPED_BIT_FIELD.true ∙ rw (eq-eqb _ _ c.if-af-bf.true))

pub returns-else-af-bf : goal.returns-else-af-bf
returns-else-af-bf c = λ s t. sym (labels-typed s t _ _ _ _ _ c.if-kind-eq-TYPED_BIT_FIELD.true ∙ rw (ne_eqb _ _ c.if-af-bf.false))

pub returns-then-kind-eq-ARRAY : goal.returns-then-kind-eq-ARRAY
returns-then-kind-eq-ARRAY c = λ s t. sym (labels-array s t _ _ _ _ _ c.if-kind-eq-ARRAY.true)

pub returns : goal.returns
returns c = λ s t. sym (labels-plain s t _ _ _ _ _ c.requires.0 c.requires.1 c.requires.2 c.if-kind-eq-BIT_FIELD.false c.if-kind-eq-TYPED_BIT_FIELD.false c.if-kind-eq-ARRAY.false)
