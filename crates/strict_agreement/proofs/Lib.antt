-- The theorems over strict reading, and below them the laws that they rest on.
pub mod Strict
pub mod Spelling
pub mod CasesHold
pub mod SpellingNeededHold
pub mod PrintLaws
pub mod SurplusLaws
pub mod NeverLaws
pub mod EndLaws
pub mod SpelledReading
pub mod SpellingLaws
