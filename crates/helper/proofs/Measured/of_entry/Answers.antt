use borrow.Author.Tests.{eq-eqb, ne_eqb}
use mathlib.Core.Path.{sym}
use native.Mathlib.Omega.{arith}
use Rattle.kinds.specs.Primitive.{entry}
use Rattle.helper.specs.Measure.{clip}
use Rattle.helper.proofs.SizeLaws.{fit-le}
use Rattle.helper.proofs.Measured.of_entry.Goals as goal

pub returns-then-n-eq0 : goal.returns-then-n-eq0
unfolding clip entry
returns-then-n-eq0 c = rw (eq-eqb _ _ c.if-n-eq0.true)

pub returns : goal.returns
unfolding clip entry
returns c = rw (ne_eqb _ _ c.if-n-eq0.false) (sym (fit-le _ (omega arith)))
