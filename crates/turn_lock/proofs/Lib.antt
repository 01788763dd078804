pub mod Shared
mod Live
mod Told
mod Moves
mod Word
mod Parting
mod Joining
mod Ending
mod Passed
