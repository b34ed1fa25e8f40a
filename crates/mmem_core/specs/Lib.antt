-- what a reader must believe
pub mod ManagedStore
-- the code's invariants
pub mod Code
