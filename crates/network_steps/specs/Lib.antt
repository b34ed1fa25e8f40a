-- The definitions that a reader must believe.
pub mod NetworkText
pub mod NetworkScript
pub mod NetworkRuns
pub mod StepsView
pub mod Lines
pub mod Refusals
pub mod Works
-- The code's invariants.
pub mod Code
