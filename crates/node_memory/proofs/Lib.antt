pub mod Apart
pub mod Others
mod Examples
pub mod LaidOut
pub mod HeapBlocks
pub mod Stays
