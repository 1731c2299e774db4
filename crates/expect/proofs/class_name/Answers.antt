use native.Mathlib.Omega.{arith}
use Rattle.expect.proofs.TextLaws.{same_outcome, class-end, class-none, class-quoted}
use Rattle.expect.proofs.class_name.Goals as goal

pub returns-then-text-at : goal.returns-then-text-at
returns-then-text-at c = (class-end _ _ c.if-text-at.true, c.requires)

pub returns-then-text-at-ne34 : goal.returns-then-text-at-ne34
returns-then-text-at-ne34 c =
    (class-none _ _ c.if-text-at.false c.if-text-at-ne34.true, c.requires)

pub returns : goal.returns
returns c =
    same_outcome _ c.expect_quote.result _ _ (class-quoted _ _ c.if-text-at.false (omega (arith, c.if-text-at-ne34.false))) c.expect_quote.ensures
