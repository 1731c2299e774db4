-- The two public documents, how their types are named in our trees, and where the crate parts from them.
pub mod Decimal
pub mod Guide
pub mod Gcc
pub mod Translation
pub mod Differences
