mod BundledExamples
mod Examples
mod NetworkExamples
mod Opened
mod Parts
mod ReadLines
mod StepExamples
mod TurnExamples
mod Words
pub mod Handles
pub mod Lent
pub mod NetworkHandles
pub mod Submitting
