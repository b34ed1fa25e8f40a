pub mod Stored
pub mod Answers
pub mod Given
