pub mod Waiting
pub mod Mailbox
pub mod Adding
pub mod Owners
pub mod Tournament
pub mod Sorted
pub mod Online
