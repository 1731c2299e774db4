-- Laws of the definitions that belong to no one function.
pub mod CodeLaws
pub mod TokenLaws
pub mod StepLaws
