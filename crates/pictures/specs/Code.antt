pub mod Blocks
pub mod Dump
pub mod Ticks
