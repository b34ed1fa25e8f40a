-- What the code keeps, which no promise names.
pub mod Parts
