pub mod Words
pub mod WordsRead
