use mathlib.Core.Path.{refl, sym, ◌∙◌}
use native.Mathlib.Omega.{arith}
use Rattle.codes.proofs.StepLaws.{closed_in}
use Rattle.parse.proofs.put_array.Goals as goal

pub overflow_sub-k : goal.overflow_sub-k
overflow_sub-k c =
    rw (c.in-Ok-Encoding.is, rw c.in-Ok-Encoding.is at c.in-Ok-Encoding.field-0-is) at c.requires.1

pub overflow_add-result : goal.overflow_add-result
overflow_add-result c =
    let h = closed_in c.args.text.now c.in-Ok-Encoding.to (sym c.closes_item.ensures ∙ c.if-closes_item.true) in omega (arith, c.well_formed.1.0)

pub returns-in-Ok-Empty : goal.returns-in-Ok-Empty
returns-in-Ok-Empty c = rw (c.in-Ok-Empty.is, rw c.in-Ok-Empty.is at c.in-Ok-Empty.field-0-is) (refl, refl)

pub returns-then-closes_item : goal.returns-then-closes_item
returns-then-closes_item c =
    rw (c.in-Ok-Encoding.is, rw c.in-Ok-Encoding.is at c.in-Ok-Encoding.field-0-is, sym c.closes_item.ensures ∙ c.if-closes_item.true) (refl, c.put_node.ensures)

pub returns-else-closes_item : goal.returns-else-closes_item
returns-else-closes_item c =
    rw (c.in-Ok-Encoding.is, rw c.in-Ok-Encoding.is at c.in-Ok-Encoding.field-0-is, sym c.closes_item.ensures ∙ c.if-closes_item.false) (refl, refl)

pub returns-in-Ok-ContainerEnd : goal.returns-in-Ok-ContainerEnd
returns-in-Ok-ContainerEnd c = rw (c.in-Ok-ContainerEnd.is, rw c.in-Ok-ContainerEnd.is at c.in-Ok-ContainerEnd.field-0-is, c.end_byte.ensures) (refl, refl)

pub returns-in-Ok-ArrayEnd : goal.returns-in-Ok-ArrayEnd
returns-in-Ok-ArrayEnd c =
    rw (c.in-Ok-ArrayEnd.is, rw c.in-Ok-ArrayEnd.is at c.in-Ok-ArrayEnd.field-0-is) (refl, c.put_none_under.ensures)

pub returns-in-Err : goal.returns-in-Err
returns-in-Err c = rw c.in-Err.is (refl, refl)
