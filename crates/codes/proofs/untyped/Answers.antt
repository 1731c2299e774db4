use borrow.Author.Tests.{le-leb, lt-leb}
use Rattle.codes.proofs.untyped.Goals as goal

pub returns-then-size-le255 : goal.returns-then-size-le255
returns-then-size-le255 c = rw c.first_digits-digits.ensures (simp (le-leb _ _ c.if-size-le255.true))

pub returns-else-size-le255 : goal.returns-else-size-le255
returns-else-size-le255 c = rw c.first_digits-digits.ensures (simp (lt-leb _ _ c.if-size-le255.false))
