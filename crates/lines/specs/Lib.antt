-- What the calls answer; then what functions inside answer.
pub mod Answer
pub mod Steps
pub mod Digits
