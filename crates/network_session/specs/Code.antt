-- The code's own invariants.
pub mod Tournaments
pub mod Wakes
pub mod Measures
pub mod Working
