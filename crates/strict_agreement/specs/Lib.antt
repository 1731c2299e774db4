-- What the theorems over strict reading are stated with, beside the definitions of kinds and agreement.
pub mod Surplus
pub mod Printed
pub mod Spelling
pub mod SpellingNeeded
pub mod Cases
