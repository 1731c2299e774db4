use mathlib.Core.Path.{refl}
use Rattle.parse.proofs.put_indirection.Goals as goal

pub overflow_sub-k : goal.overflow_sub-k
overflow_sub-k c =
    rw (c.in-Ok-Encoding.is, rw c.in-Ok-Encoding.is at c.in-Ok-Encoding.field-0-is) at c.requires.1

pub returns-in-Ok-Encoding : goal.returns-in-Ok-Encoding
returns-in-Ok-Encoding c =
    rw (c.in-Ok-Encoding.is, rw c.in-Ok-Encoding.is at c.in-Ok-Encoding.field-0-is) (refl, c.put_node.ensures)

pub returns-in-Err : goal.returns-in-Err
returns-in-Err c = rw c.in-Err.is (refl, refl)

pub returns-in-Ok-Empty : goal.returns-in-Ok-Empty
returns-in-Ok-Empty c =
    rw (c.in-Ok-Empty.is, rw c.in-Ok-Empty.is at c.in-Ok-Empty.field-0-is) (refl, c.put_none_under.ensures)

pub returns-in-Ok-ContainerEnd : goal.returns-in-Ok-ContainerEnd
returns-in-Ok-ContainerEnd c =
    rw (c.in-Ok-ContainerEnd.is, rw c.in-Ok-ContainerEnd.is at c.in-Ok-ContainerEnd.field-0-is) (refl, c.put_none_under-in-Ok-ContainerEnd.ensures)

pub returns-in-Ok-ArrayEnd : goal.returns-in-Ok-ArrayEnd
returns-in-Ok-ArrayEnd c =
    rw (c.in-Ok-ArrayEnd.is, rw c.in-Ok-ArrayEnd.is at c.in-Ok-ArrayEnd.field-0-is) (refl, c.put_none_under-in-Ok-ArrayEnd.ensures)
