-- Laws of the definitions that belong to no one function.
pub mod EntryLaws
pub mod ListLaws
pub mod AnswerLaws
