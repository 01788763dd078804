pub mod Live
pub mod Hearing
pub mod Sending
pub mod Tickets
pub mod Model
pub mod Windows
