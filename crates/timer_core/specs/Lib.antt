-- what a reader must believe
pub mod Deadlines
pub mod Names
pub mod Timers
-- invariants of the code's parts
pub mod Code
