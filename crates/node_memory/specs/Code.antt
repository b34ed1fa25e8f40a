pub mod Ask
pub mod Conditions
pub mod Layout
pub mod ListCalls
pub mod Outcomes
pub mod Parts
pub mod Placed
pub mod Separation
