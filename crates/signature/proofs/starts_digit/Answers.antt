use mathlib.Core.Path.{sym, ◌∙◌}
use borrow.Author.Tests.{le-ltb}
use Rattle.signature.proofs.EntryLaws.{digit-there, digit-end}
use Rattle.signature.proofs.starts_digit.Goals as goal

pub returns-then-at-text : goal.returns-then-at-text
returns-then-at-text c = c.is_digit.ensures ∙ sym (digit-there _ _ c.if-at-text.true)

pub returns-else-at-text : goal.returns-else-at-text
returns-else-at-text c = le-ltb _ _ c.if-at-text.false ∙ sym (digit-end _ _ c.if-at-text.false)
