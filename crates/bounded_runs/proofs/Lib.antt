mod Count
mod Free
mod Fills
mod Begun
mod Arrivals
mod Demand
mod Requests
mod Clear
mod Delay
mod UnderWay
mod Cut
mod KeptRuns
mod Kept
mod Belongs
pub mod Shared
