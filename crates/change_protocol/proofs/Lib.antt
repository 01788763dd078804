mod Allowed
mod Counts
mod Ends
mod First
mod Kept
mod Live
mod Moving
mod NotFelt
mod OpFaults
mod Pairs
mod Placing
mod Pruned
pub mod Shared
mod Uses
mod WellFormed
mod WellPlaced
