pub mod Bytewise
mod DigitTables
pub mod Digits
mod EachByte
mod Examples
mod FirstBytes
mod HexBlocks
mod HexPairs
mod LineEnds
mod Positions
pub mod Reading
pub mod ScriptLines
mod SmallNumbers
mod Blanked
pub mod Ticks
mod WholeLines
pub mod Writing
pub mod Common
