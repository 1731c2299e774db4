-- The definitions, in the order in which they are read; `Ends` serves a private contract alone.
pub mod Answer
pub mod Ends
