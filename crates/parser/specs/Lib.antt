-- The definitions, in the order in which they are read: what stands at a place, what the calls answer, and runs of bytes, which crates above cite.
pub mod Place
pub mod Answer
pub mod Run
