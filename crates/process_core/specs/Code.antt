-- The code's invariants, and what the scheduler promises the kernel. Not needed to know what a mote does.
pub mod ByValue
pub mod Conditions
pub mod FindsJob
pub mod Invariant
pub mod Items
pub mod KernelReceivers
pub mod LonePoll
pub mod Nesting
pub mod OpenWork
pub mod ProcessList
pub mod SchedulerFields
pub mod SchedulerView
pub mod Walks
pub mod Weights
pub mod Yields
