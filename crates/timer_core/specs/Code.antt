-- Invariants of the code.
pub mod Armings
pub mod Conditions
pub mod DueTimers
pub mod Earliest
pub mod LinkedCells
pub mod Links
pub mod Neighbours
pub mod Numbered
pub mod NumberedTimers
pub mod Outlooks
pub mod Slots
pub mod Watched
