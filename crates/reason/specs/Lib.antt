-- The definitions, in the order in which they are read; `Spot` serves private contracts alone.
pub mod Reason
pub mod Answer
pub mod Spot
