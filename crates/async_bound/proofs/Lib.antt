mod Lists
mod Longest
mod Sums
mod Room
mod Row
pub mod Shared
mod Steps
