mod Apart
pub mod Callers
mod Examples
pub mod PlaceLemmas
mod RingLemmas
pub mod Shares
pub mod Sliding
mod Midway
pub mod StoreLemmas
pub mod TableLemmas
pub mod Words
pub mod Lemmas
