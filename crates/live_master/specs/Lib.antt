pub mod Callers
pub mod Calls
pub mod Kept
pub mod Passes
pub mod Within
