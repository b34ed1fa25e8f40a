-- The code's own invariants.
pub mod Lines
pub mod Ready
pub mod Reports
pub mod Way
