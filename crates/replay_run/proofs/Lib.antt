mod Beginnings
mod Cutting
mod EventRows
mod Fronts
mod Going
mod Openings
mod RowsSoFar
mod RunNext
pub mod Shared
mod Steps
mod Tails
mod UnderWay
mod Whole
