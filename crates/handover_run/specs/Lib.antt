pub mod Following
pub mod Handed
pub mod HandedOver
