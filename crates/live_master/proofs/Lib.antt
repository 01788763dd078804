mod Calling
mod Keeping
mod Openings
mod Standing
mod Rooms
