mod FieldBytes
mod JoinedFields
mod LaneBits
mod Readings
mod RowForms
mod RowLines
pub mod Shared
