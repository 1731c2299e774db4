use borrow.Author.Tests.{eq-eqb, ne_eqb}
use Rattle.helper.specs.Answer.{max_size}
use Rattle.helper.proofs.max_size.Goals as goal

pub returns-then-row-eq-ROW_OF_32_BITS : goal.returns-then-row-eq-ROW_OF_32_BITS
unfolding max_size
returns-then-row-eq-ROW_OF_32_BITS c = rw (eq-eqb _ _ c.if-row-eq-ROW_OF_32_BITS.true)

pub returns : goal.returns
unfolding max_size
returns c = rw (ne_eqb _ _ c.if-row-eq-ROW_OF_32_BITS.false)
