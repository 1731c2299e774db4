-- Laws of the definitions that belong to no one function.
pub mod OwnLaws
pub mod CountLaws
pub mod SpotLaws
pub mod PathLaws
pub mod ValueLaws
pub mod ReasonLaws
pub mod WalkLaws
