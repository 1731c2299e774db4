-- Laws of the definitions that belong to no one function.
pub mod ShowLaws
pub mod SentenceLaws
