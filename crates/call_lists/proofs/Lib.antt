pub mod Cuts
mod Examples
pub mod Filling
pub mod Fitting
pub mod Lowered
pub mod Only
pub mod Parting
pub mod Possible
mod RowExamples
mod RowParts
mod RowTextExamples
mod RowTexts
pub mod Taken
