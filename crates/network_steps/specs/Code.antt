-- The code's own invariants.
pub mod Calls
pub mod Going
pub mod StepLines
pub mod Turns
pub mod Widths
