-- What the theorems over layouts are stated with, beside the definitions of layout.
pub mod Fields
pub mod Laid
pub mod Shown
pub mod Cases
