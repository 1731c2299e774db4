use mathlib.Core.Path.{refl}
use Rattle.parse.proofs.encoding_or_none.Goals as goal

pub put_header-requires : goal.put_header-requires
put_header-requires c =
    rw (c.in-Ok-Encoding.is, rw c.in-Ok-Encoding.is at c.in-Ok-Encoding.field-0-is) at c.requires.1

pub returns-in-Ok-Empty : goal.returns-in-Ok-Empty
returns-in-Ok-Empty c =
    rw (c.in-Ok-Empty.is, rw c.in-Ok-Empty.is at c.in-Ok-Empty.field-0-is) ((refl, c.put_none.ensures), refl)

pub returns-in-Ok-Encoding : goal.returns-in-Ok-Encoding
returns-in-Ok-Encoding c =
    rw (c.in-Ok-Encoding.is, rw c.in-Ok-Encoding.is at c.in-Ok-Encoding.field-0-is) ((refl, c.put_header.ensures), refl)

pub returns-in-Ok-ContainerEnd : goal.returns-in-Ok-ContainerEnd
returns-in-Ok-ContainerEnd c =
    rw (c.in-Ok-ContainerEnd.is, rw c.in-Ok-ContainerEnd.is at c.in-Ok-ContainerEnd.field-0-is, c.end_byte.ensures) ((refl, c.clear_sheet.ensures.0), c.clear_sheet.ensures.1)

pub returns-in-Ok-ArrayEnd : goal.returns-in-Ok-ArrayEnd
returns-in-Ok-ArrayEnd c =
    rw (c.in-Ok-ArrayEnd.is, rw c.in-Ok-ArrayEnd.is at c.in-Ok-ArrayEnd.field-0-is) ((refl, c.clear_sheet-in-Ok-ArrayEnd.ensures.0), c.clear_sheet-in-Ok-ArrayEnd.ensures.1)

pub returns-in-Err : goal.returns-in-Err
returns-in-Err c =
    rw c.in-Err.is ((refl, c.clear_sheet-in-Err.ensures.0), c.clear_sheet-in-Err.ensures.1)
