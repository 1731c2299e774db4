-- Laws of the definitions that belong to no one function.
pub mod SizeLaws
pub mod NodeSizeLaws
pub mod CompareLaws
pub mod AnswerLaws
