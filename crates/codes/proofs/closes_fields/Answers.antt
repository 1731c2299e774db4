use mathlib.Core.Path.{refl}
use borrow.Author.Tests.{lt-ltb, le-ltb}
use Rattle.codes.proofs.closes_fields.Goals as goal

pub returns-then-to-text : goal.returns-then-to-text
returns-then-to-text c = rw (lt-ltb _ _ c.if-to-text.true, c.end_byte.ensures) refl

pub returns-else-to-text : goal.returns-else-to-text
returns-else-to-text c = rw (le-ltb _ _ c.if-to-text.false) refl
