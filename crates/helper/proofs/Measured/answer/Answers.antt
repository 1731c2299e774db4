use borrow.Author.Tests.{le-leb, lt-leb}
use Rattle.helper.proofs.Measured.answer.Goals as goal

pub returns-then-limit-n : goal.returns-then-limit-n
returns-then-limit-n c = rw (c.in-Bytes.is, lt-leb _ _ c.if-limit-n.true)

pub returns-else-limit-n : goal.returns-else-limit-n
returns-else-limit-n c = rw (c.in-Bytes.is, le-leb _ _ c.if-limit-n.false)

pub returns-in-TooLarge : goal.returns-in-TooLarge
returns-in-TooLarge c = rw c.in-TooLarge.is
