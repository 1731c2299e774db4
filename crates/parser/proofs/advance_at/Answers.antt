use mathlib.Core.Path.{sym}
use Rattle.parser.proofs.PlaceLaws.{advance-on, advance-stays}
use Rattle.parser.proofs.advance_at.Goals as goal

pub returns-then-at-text : goal.returns-then-at-text
returns-then-at-text c = sym (advance-on _ _ c.if-at-text.true)

pub returns-else-at-text : goal.returns-else-at-text
returns-else-at-text c = sym (advance-stays _ _ c.if-at-text.false)
