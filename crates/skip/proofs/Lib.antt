-- Laws of the definitions that belong to no one function.
pub mod SkipLaws
pub mod RestLaws
