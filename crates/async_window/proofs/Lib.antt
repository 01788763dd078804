mod Kept
mod Levels
mod Offered
mod Order
pub mod Shared
mod Soonest
mod Steps
mod Table
mod Telling
mod Trees
mod Unsent
mod Putting
mod Online
mod Arrivals
