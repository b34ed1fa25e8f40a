pub mod Beat
pub mod Averager
pub mod Applications
