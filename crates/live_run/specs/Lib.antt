pub mod Answers
pub mod Crew
pub mod Live
pub mod Retiring
pub mod Running
pub mod Whole
pub mod Left
