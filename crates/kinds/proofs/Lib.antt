-- Laws of the definitions that belong to no one function.
pub mod ListLaws
pub mod StoreLaws
pub mod NameLaws
pub mod TableLaws
pub mod PrimitiveLaws
pub mod SheetLaws
pub mod NodeLaws
pub mod KindLaws
pub mod ParseLaws
pub mod BeginLaws
pub mod TreeLaws
pub mod DecimalLaws
pub mod SizeLaws
pub mod LayoutLaws
pub mod HoldsLaws
