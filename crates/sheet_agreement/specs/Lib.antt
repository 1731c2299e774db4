-- What the statements are made of.
pub mod Sheets
pub mod StrictCalls
