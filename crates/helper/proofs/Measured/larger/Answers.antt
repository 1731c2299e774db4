use mathlib.Core.Path.{ap}
use native.Mathlib.Omega.{arith}
use Rattle.helper.specs.Measure.{larger_measured}
use Rattle.helper.specs.declared.Measured.TheVariants.{Bytes}
use Rattle.helper.proofs.Measured.larger.Goals as goal

pub returns-in-Nothing : goal.returns-in-Nothing
unfolding larger_measured
returns-in-Nothing c = rw c.in-Nothing.is

pub returns-in-TooLarge : goal.returns-in-TooLarge
unfolding larger_measured
returns-in-TooLarge c = rw c.in-TooLarge.is

pub returns-in-Nothing-other : goal.returns-in-Nothing-other
unfolding larger_measured
returns-in-Nothing-other c = rw (c.in-Bytes.is, c.in-Nothing-other.is)

pub returns-in-TooLarge-other : goal.returns-in-TooLarge-other
unfolding larger_measured
returns-in-TooLarge-other c = rw (c.in-Bytes.is, c.in-TooLarge-other.is)

pub returns-in-Bytes-other : goal.returns-in-Bytes-other
unfolding larger_measured
returns-in-Bytes-other c = rw (c.in-Bytes.is, c.in-Bytes-other.is) (ap Bytes (omega arith))
