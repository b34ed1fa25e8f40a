-- The code's invariants. Not needed to know what a run writes.
pub mod Lines
pub mod LoopInvariant
pub mod Reading
pub mod Runs
pub mod Way
