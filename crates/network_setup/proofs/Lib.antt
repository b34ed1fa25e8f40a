pub mod Asking
pub mod Booting
pub mod Cutting
pub mod Ending
pub mod Examples
mod CounterExamples
pub mod Linking
pub mod MoteWords
pub mod Malformed
pub mod SettingUp
pub mod ShortLines
