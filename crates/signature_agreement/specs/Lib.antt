-- What the theorems over signatures are stated with, beside the definitions of kinds, agreement and signature.
pub mod Tiling
pub mod Pieces
pub mod Written
pub mod Limits
pub mod Cases
pub mod Needed
