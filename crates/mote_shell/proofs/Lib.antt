pub mod Boxed
mod NamedRunExamples
mod NamedRuns
