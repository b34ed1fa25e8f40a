mod Examples
pub mod Speaking
pub mod Fates
pub mod OwnLines
pub mod Ready
pub mod Refused
pub mod Lengths
pub mod OutsideMoves
pub mod Caught
pub mod Inputs
pub mod Ways
pub mod Scripts
pub mod Submitting
pub mod Running
pub mod Closing
pub mod Steppers
