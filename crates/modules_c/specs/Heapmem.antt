pub mod Heaps
pub mod Answers
