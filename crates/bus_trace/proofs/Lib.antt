mod ByCycle
mod EventByEvent
mod LogTrace
mod LogHistory
mod Plans
mod PutRows
mod RowCounts
mod RowEnds
mod RowLemmas
mod RowsTold
pub mod Shared
mod TextBegins
mod Width
