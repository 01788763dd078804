pub mod Inputs
pub mod Asked
pub mod Loads
pub mod Refusals
