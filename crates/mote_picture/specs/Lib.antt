pub mod CommandLine
pub mod Data
pub mod FrameTables
pub mod Named
pub mod NetworkStatuses
pub mod Page
pub mod Reading
pub mod Statuses
