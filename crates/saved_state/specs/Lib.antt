pub mod Bytes
pub mod Checksum
pub mod Numbers
