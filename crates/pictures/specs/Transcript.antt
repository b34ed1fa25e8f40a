pub mod Code
pub mod Forms
pub mod Lines
pub mod Quiet
pub mod Turns
pub mod Words
