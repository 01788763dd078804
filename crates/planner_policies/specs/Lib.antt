pub mod Plan
pub mod Ranked
pub mod Order
pub mod Loop
pub mod Due
