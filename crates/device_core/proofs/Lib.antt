mod Examples
pub mod Lines
pub mod Slots
pub mod TakenTogether
pub mod WholeLines
pub mod Common
