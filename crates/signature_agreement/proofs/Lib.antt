-- The theorems over signatures, and below them the laws that they rest on.
pub mod Signatures
pub mod SignatureBounds
pub mod IntLaws
pub mod CasesHold
pub mod NeededHold
pub mod WrittenLaws
pub mod PrintLaws
pub mod PieceLaws
pub mod TilingLaws
pub mod WalkLaws
pub mod OffsetLaws
