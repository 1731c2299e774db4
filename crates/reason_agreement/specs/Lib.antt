-- What the theorems over the reason are stated with, beside the definitions of kinds and reason.
pub mod Along
pub mod Calls
pub mod Limits
pub mod Cases
