use Rattle.parse.proofs.token_surplus.Goals as goal

pub surplus_place-requires : goal.surplus_place-requires
surplus_place-requires c =
    rw c.in-BitField.is at c.requires

pub surplus_place-requires-in-TypedBitField : goal.surplus_place-requires-in-TypedBitField
surplus_place-requires-in-TypedBitField c =
    rw c.in-TypedBitField.is at c.requires

pub surplus_place-requires-in-Refused : goal.surplus_place-requires-in-Refused
surplus_place-requires-in-Refused c =
    rw c.in-Refused.is at c.requires

pub returns-in-Primitive : goal.returns-in-Primitive
returns-in-Primitive c = rw c.in-Primitive.is

pub returns-in-BitField : goal.returns-in-BitField
returns-in-BitField c = rw c.in-BitField.is c.surplus_place.ensures

pub returns-in-TypedBitField : goal.returns-in-TypedBitField
returns-in-TypedBitField c = rw c.in-TypedBitField.is c.surplus_place-in-TypedBitField.ensures

pub returns-in-ArrayEnd : goal.returns-in-ArrayEnd
returns-in-ArrayEnd c = rw c.in-ArrayEnd.is

pub returns-in-ContainerEnd : goal.returns-in-ContainerEnd
returns-in-ContainerEnd c = rw c.in-ContainerEnd.is

pub returns-in-Refused : goal.returns-in-Refused
returns-in-Refused c = rw c.in-Refused.is c.surplus_place-in-Refused.ensures

pub returns-in-Parts : goal.returns-in-Parts
returns-in-Parts c = rw c.in-Parts.is

pub returns-in-End : goal.returns-in-End
returns-in-End c = rw c.in-End.is
