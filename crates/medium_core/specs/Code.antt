-- The code's invariants.
pub mod Airs
pub mod Heap
pub mod Queue
