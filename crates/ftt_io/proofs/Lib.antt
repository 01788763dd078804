mod Lookup
pub mod Shared
