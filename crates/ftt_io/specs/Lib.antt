pub mod Calls
pub mod Counts
pub mod FileShelf
pub mod Files
pub mod MemShelf
pub mod MemSink
pub mod Puts
pub mod StdSink
