-- What the code keeps.
pub mod Linking
pub mod Setups
pub mod Words
