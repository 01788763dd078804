pub mod Again
pub mod Ahead
pub mod Audit
pub mod Auditing
pub mod FaultText
pub mod Reading
pub mod States
