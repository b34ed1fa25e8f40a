-- what a reader must believe
pub mod Answered
pub mod BlockRefusals
pub mod Frames
pub mod HeapCalls
pub mod ListedPools
pub mod ManagedCalls
pub mod Memory
pub mod MemoryCalls
pub mod PoolCalls
pub mod Sizes
-- the code's invariants
pub mod Code
