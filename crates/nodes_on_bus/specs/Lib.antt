pub mod Boards
pub mod Duties
