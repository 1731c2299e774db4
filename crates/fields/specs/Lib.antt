-- The definitions.
pub mod Answer
