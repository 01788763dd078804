pub mod Flags
pub mod Instance
pub mod Opening
pub mod Table
