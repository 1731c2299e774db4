use mathlib.Core.Path.{sym}
use borrow.Author.Tests.{le-leb, lt-leb}
use Rattle.sheet.proofs.sooner_of.Goals as goal

pub returns-then-number : goal.returns-then-number
returns-then-number c = rw (sym c.number.ensures, sym c.number-2.ensures, le-leb _ _ c.if-number.true)

pub returns : goal.returns
returns c = rw (sym c.number.ensures, sym c.number-2.ensures, lt-leb _ _ c.if-number.false)
