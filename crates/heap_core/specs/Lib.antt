-- what a reader must believe
pub mod HeapStore
-- the code's invariants
pub mod Code
