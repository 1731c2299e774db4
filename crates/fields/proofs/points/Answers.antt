use mathlib.Core.Path.{sym, ◌∙◌}
use borrow.Author.Tests.{eq-eqb, ne_eqb}
use Rattle.fields.specs.Answer.{points}
use Rattle.fields.proofs.points.Goals as goal

pub returns-then-kind_of-eq-POINTER : goal.returns-then-kind_of-eq-POINTER
unfolding points
returns-then-kind_of-eq-POINTER c = c.holds.ensures ∙ sym (rw (eq-eqb _ _ (sym c.kind_of.ensures ∙ c.if-kind_of-eq-POINTER.true)))

pub returns : goal.returns
unfolding points
returns c = sym (rw (ne_eqb _ _ (λ e. c.if-kind_of-eq-POINTER.false (c.kind_of.ensures ∙ e))))
