use borrow.Author.Tests.{eq-eqb, ne_eqb}
use Rattle.helper.specs.Measure.{fit, clip, fold}
use Rattle.kinds.specs.Size.{sum, largest}
use Rattle.helper.proofs.Measured.of_no_fields.Goals as goal

pub returns-then-kind-eq-STRUCT : goal.returns-then-kind-eq-STRUCT
unfolding clip fold fit sum
returns-then-kind-eq-STRUCT c = rw (eq-eqb _ _ c.if-kind-eq-STRUCT.true)

pub returns : goal.returns
unfolding clip fold fit largest
returns c = rw (ne_eqb _ _ c.if-kind-eq-STRUCT.false)
