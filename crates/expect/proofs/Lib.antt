-- Laws that belong to no one function.
pub mod TextLaws
pub mod WalkLaws
pub mod FieldLaws
pub mod AnswerLaws
