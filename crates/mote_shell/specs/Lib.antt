pub mod NamedRuns
