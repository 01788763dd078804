pub mod Summary
pub mod Output
pub mod Ends
