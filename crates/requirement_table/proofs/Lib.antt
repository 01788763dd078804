mod Bytes
mod FlaggedOnce
mod Found
mod FreeSlots
mod Latest
mod NotOver
mod Rounds
pub mod Shared
mod SlotInstances
mod Waiting
