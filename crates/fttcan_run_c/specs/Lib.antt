pub mod Audited
pub mod Called
