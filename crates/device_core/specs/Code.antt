-- The code's own invariants.
pub mod HeldFrames
pub mod PacketFields
pub mod Taking
pub mod WholeLines
