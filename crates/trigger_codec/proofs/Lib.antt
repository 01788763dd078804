mod EightBytes
mod Flags
mod Frames
mod HeardTriggers
pub mod Shared
mod Told
