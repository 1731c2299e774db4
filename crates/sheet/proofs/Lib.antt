-- Laws of the check of a sheet.
pub mod TestLaws
pub mod WalkLaws
pub mod AnswerLaws
pub mod GivenLaws
pub mod PutLaws
pub mod Beyond
