pub mod FaultText
pub mod LogReading
pub mod Row
pub mod RowBytes
pub mod RowFields
