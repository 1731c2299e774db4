-- Laws of the definitions that belong to no one function.
pub mod FieldLaws
pub mod PutLaws
pub mod DigitLaws
pub mod HexLaws
pub mod DecimalLaws
