-- What the bounds are stated with.
pub mod Limits
pub mod Extremes
