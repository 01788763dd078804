pub mod Opening
pub mod Offered
pub mod Node
pub mod Own
pub mod Kept
pub mod Window
pub mod Ahead
pub mod Online
