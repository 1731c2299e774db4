-- The definitions, in the order in which they are read; `Reads` serves private contracts alone.
pub mod Signature
pub mod Answer
pub mod Reads
