pub mod Lists
pub mod Readings
pub mod Rows
pub mod Words
