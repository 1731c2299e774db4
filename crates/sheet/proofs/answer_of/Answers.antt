use borrow.Author.Tests.{eq-eqb, ne_eqb}
use Rattle.sheet.specs.Walked.{answer}
use Rattle.sheet.proofs.answer_of.Goals as goal

pub returns-then-p-end : goal.returns-then-p-end
unfolding answer
returns-then-p-end c = rw (c.in-Some.is, ne_eqb _ _ c.if-p-end.true)

pub returns-then-good : goal.returns-then-good
unfolding answer
returns-then-good c = rw (c.in-Some.is, eq-eqb _ _ c.if-p-end.false, c.if-good.true)

pub returns-in-None : goal.returns-in-None
unfolding answer
returns-in-None c = rw c.in-None.is

pub returns-else-good : goal.returns-else-good
unfolding answer
returns-else-good c = rw (c.in-Some.is, eq-eqb _ _ c.if-p-end.false, c.if-good.false)
