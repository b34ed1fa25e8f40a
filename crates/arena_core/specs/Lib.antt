-- What contracts of the code use: a run's promise reaches nothing here.
pub mod Code
