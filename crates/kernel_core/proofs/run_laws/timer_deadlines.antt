pub mod MovedTimers
pub mod Ledger
pub mod Balanced
pub mod Watched
pub mod Attended
