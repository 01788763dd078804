pub mod BitsText
pub mod Rows
pub mod Listing
pub mod Stops
