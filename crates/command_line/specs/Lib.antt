pub mod Code
pub mod CommandLine
pub mod Statuses
