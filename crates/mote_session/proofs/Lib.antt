pub mod Answering
mod Examples
pub mod Keeping
pub mod Leading
pub mod Taking
