use native.Mathlib.Omega.{arith}
use mathlib.Core.Path.{sym, ◌∙◌}
use borrow.Author.Tests.{le-leb, lt-leb}
use Rattle.kinds.proofs.SheetLaws.{numbers-first, numbers-bits, numbers-rest}
use Rattle.sheet.proofs.WalkLaws.{numbers-typed, numbers-array}
use Rattle.sheet.proofs.numbers_ok.Goals as goal

pub returns-then-kind-eq-TYPED_BIT_FIELD : goal.returns-then-kind-eq-TYPED_BIT_FIELD
returns-then-kind-eq-TYPED_BIT_FIELD c = λ p e. sym (numbers-typed _ _ _ p e c.if-kind-eq-TYPED_BIT_FIELD.true (omega arith))

pub returns-then-kind-eq-ARRAY : goal.returns-then-kind-eq-ARRAY
returns-then-kind-eq-ARRAY c = λ p e. sym (numbers-array _ _ _ p e c.if-kind-eq-ARRAY.true (omega arith))

pub returns-then-first-ne0 : goal.returns-then-first-ne0
returns-then-first-ne0 c = λ p e. sym (numbers-first _ _ _ p e c.requires c.if-kind-eq-TYPED_BIT_FIELD.false c.if-kind-eq-ARRAY.false c.if-first-ne0.true)

pub returns-then-kind-eq-BIT_FIELD : goal.returns-then-kind-eq-BIT_FIELD
returns-then-kind-eq-BIT_FIELD c = λ p e. sym (numbers-bits _ _ _ p e c.if-kind-eq-BIT_FIELD.true c.if-first-ne0.false)

pub returns-then-kind-gt-NONE : goal.returns-then-kind-gt-NONE
returns-then-kind-gt-NONE c = λ p e. sym (numbers-rest _ _ _ p e c.requires c.if-kind-eq-TYPED_BIT_FIELD.false c.if-kind-eq-ARRAY.false c.if-kind-eq-BIT_FIELD.false c.if-first-ne0.false ∙ rw (lt-leb _ 31 c.if-kind-gt-NONE.true))

pub returns : goal.returns
returns c = λ p e. sym (numbers-rest _ _ _ p e c.requires c.if-kind-eq-TYPED_BIT_FIELD.false c.if-kind-eq-ARRAY.false c.if-kind-eq-BIT_FIELD.false c.if-first-ne0.false ∙ rw (le-leb _ 31 c.if-kind-gt-NONE.false))
