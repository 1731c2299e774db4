use borrow.Author.Tests.{eq-eqb, ne_eqb}
use Rattle.expect.proofs.opening_byte.Goals as goal

pub returns-then-kind-ne-TYPED_BIT_FIELD : goal.returns-then-kind-ne-TYPED_BIT_FIELD
returns-then-kind-ne-TYPED_BIT_FIELD c = rw (ne_eqb c.args.kind 25 c.if-kind-ne-TYPED_BIT_FIELD.true)

pub returns : goal.returns
returns c = rw (eq-eqb c.args.kind 25 c.if-kind-ne-TYPED_BIT_FIELD.false)
