pub mod Changes
pub mod Faults
pub mod Flaws
pub mod Forms
pub mod Gaps
pub mod NewLines
pub mod Outcomes
pub mod Parts
pub mod Unread
-- The code's invariants.
pub mod Code
