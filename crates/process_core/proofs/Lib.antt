pub mod Sound
pub mod Yields
pub mod Rest
pub mod Listed
pub mod MarkBits
pub mod LonePoll
mod Examples
pub mod Common
pub mod Lemmas
