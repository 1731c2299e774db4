-- The statements, and below them the laws that they rest on.
pub mod PrintBounds
pub mod SheetBounds
pub mod ReadBounds
pub mod SheetPrints
pub mod HeldLaws
pub mod LongestLaws
pub mod PrintLaws
pub mod RoomLaws
