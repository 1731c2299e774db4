use borrow.Author.Tests.{eq-eqb, ne_eqb}
use Rattle.layout.specs.Placing.{begin_measured}
use Rattle.layout.proofs.place.begin_of.Goals as goal

pub returns-then-kind-eq-STRUCT : goal.returns-then-kind-eq-STRUCT
unfolding begin_measured
returns-then-kind-eq-STRUCT c = rw (eq-eqb _ _ c.if-kind-eq-STRUCT.true) c.next_multiple.ensures

pub returns : goal.returns
unfolding begin_measured
returns c = rw (ne_eqb _ _ c.if-kind-eq-STRUCT.false)
