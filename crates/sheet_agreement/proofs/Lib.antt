-- The statements, and below them the laws that they rest on.
pub mod SheetAgreement
pub mod Readings
pub mod ReadingLaws
pub mod StrictLaws
pub mod AnswerLaws
