mod Examples
pub mod Clocks
pub mod CommandLine
pub mod Harmless
