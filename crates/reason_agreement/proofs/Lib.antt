-- The theorems over the reason, and below them the laws that they rest on.
pub mod Reasons
pub mod ReasonBounds
pub mod AlongLaws
pub mod CasesHold
pub mod CallLaws
pub mod BoundLaws
pub mod FarthestLaws
pub mod KindLaws
pub mod YesLaws
pub mod TextLaws
pub mod SwapLaws
pub mod ShownLaws
pub mod RightLaws
pub mod GoodLaws
