pub mod Stuffing
pub mod StuffFault
pub mod ByPlace
pub mod Fields
pub mod Sending
