pub mod event_order
pub mod timer_deadlines
pub mod Callers
pub mod Changes
mod Examples
pub mod Isolated
mod IsolationExamples
pub mod OwnBlocks
pub mod Rests
pub mod Whole
mod BrokenLaws
