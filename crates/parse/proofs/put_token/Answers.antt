use mathlib.Core.Path.{refl, ◌∙◌}
use native.Mathlib.Omega.{arith}
use Rattle.parse.proofs.put_token.Goals as goal

pub put_node-requires : goal.put_node-requires
put_node-requires c =
    omega (arith, rw c.in-Primitive.is at c.requires)

pub overflow_add-result : goal.overflow_add-result
overflow_add-result c =
    omega (arith, rw c.in-Primitive.is at c.requires)

pub put_node-requires-in-BitField : goal.put_node-requires-in-BitField
put_node-requires-in-BitField c =
    omega (arith, rw c.in-BitField.is at c.requires)

pub overflow_add-result-in-BitField : goal.overflow_add-result-in-BitField
overflow_add-result-in-BitField c =
    omega (arith, rw c.in-BitField.is at c.requires)

pub overflow_add-n : goal.overflow_add-n
overflow_add-n c =
    omega (arith, rw c.in-TypedBitField.is at c.requires)

pub put_node-requires-in-TypedBitField : goal.put_node-requires-in-TypedBitField
put_node-requires-in-TypedBitField c =
    omega (arith, rw c.in-TypedBitField.is at c.requires)

pub put_node-requires-in-TypedBitField-2 : goal.put_node-requires-in-TypedBitField-2
put_node-requires-in-TypedBitField-2 c =
    omega (arith, rw c.in-TypedBitField.is at c.requires)

pub overflow_add-result-in-TypedBitField : goal.overflow_add-result-in-TypedBitField
overflow_add-result-in-TypedBitField c =
    omega (arith, rw c.in-TypedBitField.is at c.requires)

pub returns-in-Primitive : goal.returns-in-Primitive
returns-in-Primitive c = rw c.in-Primitive.is (refl, c.put_node.ensures)

pub returns-in-BitField : goal.returns-in-BitField
returns-in-BitField c = rw c.in-BitField.is (refl, c.put_node-in-BitField.ensures)

pub returns-in-TypedBitField : goal.returns-in-TypedBitField
returns-in-TypedBitField c =
    rw c.in-TypedBitField.is (refl, c.put_node-in-TypedBitField-2.ensures ∙ rw c.put_node-in-TypedBitField.ensures refl)

pub returns-in-ArrayEnd : goal.returns-in-ArrayEnd
returns-in-ArrayEnd c = rw c.in-ArrayEnd.is (refl, refl)

pub returns-in-ContainerEnd : goal.returns-in-ContainerEnd
returns-in-ContainerEnd c = rw c.in-ContainerEnd.is (refl, refl)

pub returns-in-Refused : goal.returns-in-Refused
returns-in-Refused c = rw c.in-Refused.is (refl, refl)
