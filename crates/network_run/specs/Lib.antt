-- The definitions that a reader must believe.
pub mod Outside
pub mod NetworkRunText
pub mod Voices
pub mod Stepper
-- The code's invariants.
pub mod Code
