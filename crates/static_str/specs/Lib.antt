-- What the calls answer; then what the functions inside rely on and leave.
pub mod Answer
pub mod Output
pub mod Parts
