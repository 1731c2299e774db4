-- Laws of the definitions that belong to no one function.
pub mod OutputLaws
pub mod NumberLaws
pub mod PrintLaws
pub mod PartLaws
pub mod PassLaws
pub mod TurnLaws
pub mod AnswerLaws
