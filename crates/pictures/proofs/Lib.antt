pub mod Again
pub mod Appended
pub mod Ascending
mod CallExamples
mod ChainExamples
pub mod Chained
pub mod Clocks
mod ColumnExamples
pub mod Contents
pub mod Covers
pub mod Drawn
mod DumpExamples
mod FactExamples
pub mod Fronts
pub mod Furthest
pub mod Growing
mod InFlightExamples
mod LineExamples
mod MarkExamples
mod MarkupExamples
mod NetworkExamples
pub mod PoolNumbers
pub mod ReadNumbers
pub mod Room
pub mod RowClocks
mod RowExamples
pub mod RowTitles
pub mod Says
pub mod Spanned
mod TitleExamples
pub mod Told
pub mod TurnParts
pub mod Waits
pub mod Walked
mod WordExamples
pub mod WordForms
pub mod Written
