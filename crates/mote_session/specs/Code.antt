-- The code's invariants. Not needed to know what a session promises.
pub mod Places
pub mod Shown
pub mod Speaking
pub mod Working
