pub mod Choice
pub mod ChoiceRows
pub mod Combination
pub mod WishFields
pub mod WishRow
pub mod WishText
pub mod WishesFile
