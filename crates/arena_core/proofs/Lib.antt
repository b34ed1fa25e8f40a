pub mod Allocation
pub mod Blocks
mod Examples
pub mod Inner
pub mod LendsTwo
pub mod Made
pub mod Ranges
pub mod Rows
pub mod Runs
pub mod Words
