-- The laws, in the order in which they build on each other.
pub mod TextLaws
pub mod PlaceLaws
pub mod RestLaws
pub mod RunLaws
