pub mod DataFrame
pub mod FrameFault
pub mod Number
pub mod Crc
pub mod Wire
pub mod Reading
pub mod Progress
pub mod Begun
