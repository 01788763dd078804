pub mod Compared
pub mod EventRows
pub mod LastRows
pub mod Log
pub mod LogRows
pub mod Logged
pub mod Recent
pub mod Started
