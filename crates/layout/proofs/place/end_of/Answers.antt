use borrow.Author.Tests.{eq-eqb, ne_eqb}
use Rattle.layout.proofs.place.end_of.Goals as goal

pub returns-then-kind-eq-STRUCT : goal.returns-then-kind-eq-STRUCT
returns-then-kind-eq-STRUCT c = rw (eq-eqb _ _ c.if-kind-eq-STRUCT.true) c.plus.ensures

pub returns : goal.returns
returns c = rw (ne_eqb _ _ c.if-kind-eq-STRUCT.false) c.larger.ensures
