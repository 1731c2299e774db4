-- The definitions, in the order in which they are read: what the entry points answer, then what the walks inside answer.
pub mod Answer
pub mod Measure
