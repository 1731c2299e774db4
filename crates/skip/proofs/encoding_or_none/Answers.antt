use mathlib.Core.Path.{refl}
use Rattle.skip.proofs.encoding_or_none.Goals as goal

pub returns-in-Empty : goal.returns-in-Empty
returns-in-Empty c = rw c.in-Empty.is refl

pub returns-in-Encoding : goal.returns-in-Encoding
returns-in-Encoding c = rw c.in-Encoding.is refl

pub returns-in-ContainerEnd : goal.returns-in-ContainerEnd
returns-in-ContainerEnd c = rw (c.in-ContainerEnd.is, c.unknown_end.ensures, c.end_byte.ensures) refl

pub returns-in-ArrayEnd : goal.returns-in-ArrayEnd
returns-in-ArrayEnd c = rw (c.in-ArrayEnd.is, c.unknown_end-in-ArrayEnd.ensures) refl
