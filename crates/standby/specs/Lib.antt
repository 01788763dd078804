pub mod Core
pub mod Following
pub mod Handover
pub mod Telling
