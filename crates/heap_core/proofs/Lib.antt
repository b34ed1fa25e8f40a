pub mod Callers
mod Examples
pub mod Lemmas
pub mod Resized
