use mathlib.Core.Path.{refl}
use Rattle.skip.proofs.skip_token.Goals as goal

pub returns-in-Primitive : goal.returns-in-Primitive
returns-in-Primitive c = rw c.in-Primitive.is refl

pub returns-in-BitField : goal.returns-in-BitField
returns-in-BitField c = rw c.in-BitField.is refl

pub returns-in-TypedBitField : goal.returns-in-TypedBitField
returns-in-TypedBitField c = rw c.in-TypedBitField.is refl

pub returns-in-ArrayEnd : goal.returns-in-ArrayEnd
returns-in-ArrayEnd c = rw c.in-ArrayEnd.is refl

pub returns-in-ContainerEnd : goal.returns-in-ContainerEnd
returns-in-ContainerEnd c = rw c.in-ContainerEnd.is refl

pub returns-in-Refused : goal.returns-in-Refused
returns-in-Refused c = rw c.in-Refused.is refl
