use mathlib.Core.Path.{refl, sym, ◌∙◌}
use native.Mathlib.Omega.{arith}
use Rattle.codes.proofs.StepLaws.{closed_in}
use Rattle.skip.proofs.skip_item.Goals as goal

pub overflow_add-result : goal.overflow_add-result
overflow_add-result c =
    omega (arith, closed_in c.args.text.now c.in-Encoding.to (sym c.closes_item.ensures ∙ c.if-closes_item.true))

pub returns-in-Empty : goal.returns-in-Empty
returns-in-Empty c = rw c.in-Empty.is refl

pub returns-then-closes_item : goal.returns-then-closes_item
returns-then-closes_item c = rw (c.in-Encoding.is, sym c.closes_item.ensures ∙ c.if-closes_item.true) refl

pub returns-else-closes_item : goal.returns-else-closes_item
returns-else-closes_item c = rw (c.in-Encoding.is, sym c.closes_item.ensures ∙ c.if-closes_item.false) refl

pub returns-in-ContainerEnd : goal.returns-in-ContainerEnd
returns-in-ContainerEnd c = rw (c.in-ContainerEnd.is, c.unknown_end.ensures, c.end_byte.ensures) refl

pub returns-in-ArrayEnd : goal.returns-in-ArrayEnd
returns-in-ArrayEnd c = rw c.in-ArrayEnd.is refl
