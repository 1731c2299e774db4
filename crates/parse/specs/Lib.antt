-- The definitions; `Room`, `Out`, `Strictly` and `Agree` serve private contracts alone.
pub mod Answer
pub mod Room
pub mod Out
pub mod Strictly
pub mod Agree
