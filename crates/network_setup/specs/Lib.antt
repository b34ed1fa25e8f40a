pub mod MoteApps
pub mod Setting
pub mod Shapes
pub mod SetupView
pub mod Lines
pub mod MoteLines
pub mod FirstLines
pub mod SetUpRuns
pub mod ScriptRuns
-- The code's invariants.
pub mod Code
