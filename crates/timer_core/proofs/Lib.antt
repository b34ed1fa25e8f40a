pub mod ArmingLemmas
pub mod AtSlots
pub mod Cells
pub mod Changes
pub mod Flags
pub mod LinkLemmas
pub mod NameLemmas
pub mod Unlinking
pub mod Walks
mod Examples
pub mod Forgetting
pub mod Looks
pub mod NoneDue
pub mod Words
pub mod Lemmas
