pub mod Trace
pub mod Stations
pub mod Recording
