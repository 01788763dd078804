mod Counted
mod Cycle
mod Drain
mod Felt
mod Left
mod Lists
mod One
mod Requests
mod Runs
mod Simulated
mod Undisturbed
pub mod Shared
