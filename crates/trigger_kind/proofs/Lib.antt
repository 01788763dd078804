mod Bounds
pub mod Shared
