-- Laws of the definitions that belong to no one function.
pub mod Names
pub mod Text
pub mod StrictlyLaws
pub mod Judge
pub mod Sheets
pub mod Cycle
pub mod Runs
pub mod Entry
pub mod FromStr
