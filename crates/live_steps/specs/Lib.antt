pub mod Live
pub mod Parts
