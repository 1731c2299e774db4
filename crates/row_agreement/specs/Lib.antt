-- What the theorems over sizes in rows are stated with, beside the definitions of kinds and helper.
pub mod Lacking
pub mod Cases
