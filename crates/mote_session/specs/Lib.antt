-- The definitions that a reader must believe.
pub mod Answered
pub mod History
pub mod Refusals
pub mod Sent
pub mod SessionRuns
pub mod SessionView
pub mod Steps
pub mod Voices
-- The code's invariants.
pub mod Code
