pub mod RequestText
pub mod RequestRow
pub mod RequestOwners
pub mod RequestsFile
