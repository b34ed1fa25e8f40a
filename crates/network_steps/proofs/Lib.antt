pub mod Digits
mod TextExamples
pub mod Moves
pub mod Parting
mod Examples
pub mod Silent
pub mod StepText
pub mod GivenInputs
pub mod Reports
pub mod Going
