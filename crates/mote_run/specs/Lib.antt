-- The definitions that a reader must believe.
pub mod RunText
pub mod Trace
-- The code's invariants.
pub mod Code
