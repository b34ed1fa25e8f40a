-- Words for contracts of the code: a run's promise doesn't reach them.
pub mod Conditions
pub mod Latest
pub mod StateMachines
