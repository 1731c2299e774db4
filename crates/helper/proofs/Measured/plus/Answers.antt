use mathlib.Core.Path.{sym}
use native.Mathlib.Omega.{arith}
use Rattle.helper.specs.Measure.{plus_measured}
use Rattle.helper.proofs.SizeLaws.{fit-le, fit-gt}
use Rattle.helper.proofs.Measured.plus.Goals as goal

pub returns-in-Nothing : goal.returns-in-Nothing
unfolding plus_measured
returns-in-Nothing c = rw c.in-Nothing.is

pub returns-in-Nothing-other : goal.returns-in-Nothing-other
unfolding plus_measured
returns-in-Nothing-other c = rw (c.in-TooLarge.is, c.in-Nothing-other.is)

pub returns-in-Bytes-other : goal.returns-in-Bytes-other
unfolding plus_measured
returns-in-Bytes-other c = rw (c.in-TooLarge.is, c.in-Bytes-other.is)

pub returns-in-TooLarge-other : goal.returns-in-TooLarge-other
unfolding plus_measured
returns-in-TooLarge-other c = rw (c.in-TooLarge.is, c.in-TooLarge-other.is)

pub returns-in-Nothing-other-2 : goal.returns-in-Nothing-other-2
unfolding plus_measured
returns-in-Nothing-other-2 c = rw (c.in-Bytes.is, c.in-Nothing-other-2.is)

pub returns-in-TooLarge-other-2 : goal.returns-in-TooLarge-other-2
unfolding plus_measured
returns-in-TooLarge-other-2 c = rw (c.in-Bytes.is, c.in-TooLarge-other-2.is)

pub returns-then-a-b : goal.returns-then-a-b
unfolding plus_measured
returns-then-a-b c = rw (c.in-Bytes.is, c.in-Bytes-other-2.is) (sym (fit-le _ (omega arith)))

pub returns-else-a-b : goal.returns-else-a-b
unfolding plus_measured
returns-else-a-b c = rw (c.in-Bytes.is, c.in-Bytes-other-2.is) (sym (fit-gt _ (omega arith)))
