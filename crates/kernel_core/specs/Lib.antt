-- The definitions that a reader must believe.
pub mod Calls
pub mod Expiries
pub mod Inputs
pub mod KernelProcesses
pub mod Machine
pub mod Mote
pub mod PacketCalls
pub mod PacketProcess
pub mod Repeating
pub mod Run
pub mod SerialProcess
pub mod TimerProcesses
-- What a run shows.
pub mod Laws
-- The code's invariants.
pub mod Code
