-- The definitions, in the order in which they are read.
pub mod Byte
pub mod Name
pub mod Level
pub mod Primitive
pub mod Container
pub mod Refusal
pub mod Tree
pub mod Print
pub mod Size
pub mod Compare
pub mod Parse
pub mod Strict
pub mod Expect
pub mod Sound
pub mod Sheet
pub mod Kind
pub mod Walk
