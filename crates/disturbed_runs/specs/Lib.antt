pub mod Outages
pub mod Disturbances
pub mod Offered
pub mod Budget
pub mod Kept
