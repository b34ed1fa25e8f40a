pub mod Climbing
pub mod First
pub mod Root
pub mod Rows
mod AlarmExamples
mod Examples
pub mod Steady
pub mod Submitting
pub mod Working
pub mod WorkingBy
pub mod Due
pub mod Moments
pub mod Logging
pub mod Timely
pub mod Heard
pub mod Refusing
mod StepRefusals
pub mod Nearer
