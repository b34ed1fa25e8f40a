mod CommandLineExamples
mod ReadNames
mod StatusExamples
pub mod Common
pub mod Matches
