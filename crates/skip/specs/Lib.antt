-- The definitions; `Skips` serves the private contracts of the cycle alone.
pub mod Answer
pub mod Skips
