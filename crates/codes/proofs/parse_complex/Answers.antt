use mathlib.Core.Path.{◌∙◌}
use native.Mathlib.Omega.{arith}
use Rattle.codes.proofs.TokenLaws.{answer-kind, answer-refused, complex-f, complex-d, complex-D, complex-no, complex-end}
use borrow.Author.Rules.{rules}
use Rattle.codes.proofs.parse_complex.Goals as goal

pub returns-then-text-at : goal.returns-then-text-at
returns-then-text-at c = c.refused.ensures ∙ answer-refused _ _ (search rules) _ _ _ (complex-end _ _ c.if-text-at.true)

pub returns-in-102 : goal.returns-in-102
returns-in-102 c =
    answer-kind _ _ (omega arith) _ _ _ _ c.kind.ensures (complex-f _ _ c.if-text-at.false c.in-102.is)

pub returns-in-100 : goal.returns-in-100
returns-in-100 c =
    answer-kind _ _ (omega arith) _ _ _ _ c.kind-in-100.ensures (complex-d _ _ c.if-text-at.false c.in-100.is)

pub returns-in-68 : goal.returns-in-68
returns-in-68 c =
    answer-kind _ _ (omega arith) _ _ _ _ c.kind-in-68.ensures (complex-D _ _ c.if-text-at.false c.in-68.is)

pub returns-in_default : goal.returns-in_default
returns-in_default c =
    let r = c.in_default.in_default-own.rest in
    c.refused-in_default.ensures ∙ answer-refused _ _ (omega arith) _ _ _ (complex-no _ _ c.if-text-at.false r.0.0.1 r.0.1 r.1)
