-- The theorems on the two documents, and below them the work.
pub mod Documents
pub mod DifferencesHold
pub mod GccLaws
pub mod GuideExamples
pub mod GuideQualifiers
pub mod GuideCodes
pub mod GuideWidths
pub mod GuideSound
pub mod GuidePrint
pub mod DecimalLaws
