pub mod SystemFile
pub mod SystemParts
pub mod SystemText
