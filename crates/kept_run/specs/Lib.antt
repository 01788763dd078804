pub mod Kept
pub mod Progress
pub mod Served
pub mod Setting
