pub mod Course
pub mod Ends
pub mod Keys
pub mod Stretch
