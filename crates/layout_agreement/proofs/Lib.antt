-- The theorems over layouts, and below them the laws that they rest on.
pub mod Layouts
pub mod CasesHold
pub mod AlikeLaws
pub mod ShownLaws
pub mod SizeLaws
pub mod CallLaws
pub mod AnswerLaws
pub mod BitFieldLaws
pub mod PartLaws
pub mod OffsetLaws
pub mod FieldLaws
pub mod ExtentLaws
pub mod WholeLaws
