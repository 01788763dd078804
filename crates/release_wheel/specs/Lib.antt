pub mod Demand
pub mod Near
pub mod Passed
pub mod Taking
pub mod Wheel
