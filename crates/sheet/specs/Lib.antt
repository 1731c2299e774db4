-- The definitions, in the order in which they are read; the last is what the pass inside the check answers.
pub mod Answer
pub mod Given
pub mod Put
pub mod Walked
