use mathlib.Core.Path.{sym}
use Rattle.parser.proofs.PlaceLaws.{peek-byte, peek-end}
use Rattle.parser.proofs.peek_at.Goals as goal

pub returns-then-at-text : goal.returns-then-at-text
returns-then-at-text c = sym (peek-byte _ _ c.if-at-text.true)

pub returns-else-at-text : goal.returns-else-at-text
returns-else-at-text c = sym (peek-end _ _ c.if-at-text.false)
