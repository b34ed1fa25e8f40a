-- what a reader must believe
pub mod BlockLists
pub mod BlockPool
-- the code's invariants
pub mod Code
