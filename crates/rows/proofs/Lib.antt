-- Laws of the definitions that belong to no one function, and what the program prints.
pub mod RowLaws
pub mod Printed
