-- What the agreement is stated with, beside the definitions of kinds.
pub mod Sound
pub mod ReadTree
pub mod Readable
pub mod ShownAlike
pub mod MarkedCases
