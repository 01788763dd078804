pub mod Streams
pub mod Room
pub mod Bound
