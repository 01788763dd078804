mod Counted
mod Instances
mod OneOfSlot
mod Openings
mod OwnedIds
mod RowByRow
mod Widths
