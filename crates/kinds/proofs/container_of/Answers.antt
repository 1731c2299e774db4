use borrow.Author.Tests.{eq-eqb, ne_eqb}
use Rattle.kinds.proofs.container_of.Goals as goal

pub returns-then-kind-eq-STRUCT : goal.returns-then-kind-eq-STRUCT
returns-then-kind-eq-STRUCT c = simp (eq-eqb _ _ c.if-kind-eq-STRUCT.true)

pub returns : goal.returns
returns c = simp (ne_eqb _ _ c.if-kind-eq-STRUCT.false)
