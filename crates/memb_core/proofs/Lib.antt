mod Apart
pub mod Blocks
pub mod Bytes
pub mod Callers
pub mod Chains
mod Examples
pub mod Linked
pub mod Numbers
pub mod Words
pub mod Lemmas
