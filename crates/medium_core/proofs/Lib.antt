pub mod Adding
mod Examples
pub mod Faith
pub mod Holding
pub mod Merging
pub mod Nth
pub mod Order
pub mod Placing
pub mod Room
pub mod Sorting
