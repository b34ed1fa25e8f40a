-- what a reader must believe
pub mod Agenda
pub mod Idle
pub mod Processes
pub mod Requests
pub mod Scheduler
-- invariants of the code's parts
pub mod Code
