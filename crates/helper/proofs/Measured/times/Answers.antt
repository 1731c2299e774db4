use borrow.Author.Tests.{eq-eqb, ne_eqb}
use mathlib.Core.Path.{sym, ap, ◌∙◌}
use native.Mathlib.Omega.{arith}
use native.Mathlib.Nat.{zero-mul}
use Rattle.helper.specs.Measure.{times_measured, fit}
use Rattle.helper.proofs.SizeLaws.{fit-le, fit-gt, product-fits, product-over}
use Rattle.helper.proofs.Measured.times.Goals as goal

pub returns-then-n-eq0-2 : goal.returns-then-n-eq0-2
unfolding times_measured
returns-then-n-eq0-2 c = rw (c.in-Bytes.is, c.if-n-eq0-2.true) (sym (ap fit (zero-mul _) ∙ fit-le 0 (omega arith)))

pub overflow_mul-result : goal.overflow_mul-result
overflow_mul-result c = let h = product-fits _ _ c.if-n-eq0-2.false c.if-a-n.true in omega arith

pub returns-in-Nothing : goal.returns-in-Nothing
unfolding times_measured
returns-in-Nothing c = rw c.in-Nothing.is

pub returns-then-n-eq0 : goal.returns-then-n-eq0
unfolding times_measured
returns-then-n-eq0 c = rw (c.in-TooLarge.is, eq-eqb _ _ c.if-n-eq0.true)

pub returns-else-n-eq0 : goal.returns-else-n-eq0
unfolding times_measured
returns-else-n-eq0 c = rw (c.in-TooLarge.is, ne_eqb _ _ c.if-n-eq0.false)

pub returns-then-a-n : goal.returns-then-a-n
unfolding times_measured
returns-then-a-n c = rw c.in-Bytes.is (sym (fit-le _ (product-fits _ _ c.if-n-eq0-2.false c.if-a-n.true)))

pub returns-else-a-n : goal.returns-else-a-n
unfolding times_measured
returns-else-a-n c = rw c.in-Bytes.is (sym (fit-gt _ (product-over _ _ c.if-n-eq0-2.false c.if-a-n.false)))
