use borrow.Author.Tests.{eq-eqb, ne_eqb}
use Rattle.helper.specs.Measure.{join_measured}
use Rattle.helper.proofs.Measured.join.Goals as goal

pub returns-then-kind-eq-STRUCT : goal.returns-then-kind-eq-STRUCT
unfolding join_measured
returns-then-kind-eq-STRUCT c = rw (eq-eqb _ _ c.if-kind-eq-STRUCT.true) c.plus.ensures

pub returns-else-kind-eq-STRUCT : goal.returns-else-kind-eq-STRUCT
unfolding join_measured
returns-else-kind-eq-STRUCT c = rw (ne_eqb _ _ c.if-kind-eq-STRUCT.false) c.larger.ensures
