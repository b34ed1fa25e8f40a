pub mod Boxed
pub mod Determined
mod Examples
pub mod GivenBytes
pub mod HandedOn
pub mod LoopInvariant
pub mod Pieces
pub mod Promise
pub mod ReadOn
pub mod Steps
pub mod Ways
pub mod Windows
pub mod Common
