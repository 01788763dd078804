mod Entries
mod Faults
mod Fields
mod Places
pub mod Shared
mod Sent
mod Stuffs
mod Table
