pub mod Cycle
pub mod Joint
pub mod Nodes
pub mod Offered
pub mod Stations
pub mod SyncWindow
pub mod LiveBus
