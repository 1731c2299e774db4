-- Laws of the definitions that belong to no one function.
pub mod MultipleLaws
pub mod ExtentLaws
pub mod RoomLaws
pub mod FillLaws
pub mod EndLaws
pub mod FindLaws
pub mod AnswerLaws
pub mod TakenLaws
pub mod SimpleLaws
pub mod WalkLaws
