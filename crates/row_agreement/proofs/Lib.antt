-- The theorems over sizes in rows, and below them the laws that they rest on.
pub mod Rows
pub mod CasesHold
pub mod AnswerLaws
pub mod CodeLaws
pub mod NoneLaws
