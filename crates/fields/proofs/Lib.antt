-- Laws of the definitions that belong to no one function.
pub mod FieldLaws
