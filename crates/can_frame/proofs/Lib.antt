pub mod Shared
mod ByteSums
mod Begun
mod Carried
mod Expectations
mod Fields
mod Finish
mod Lengths
mod LowBytes
mod Fronts
mod OneAnswer
mod Plain
mod PlainFields
mod Remainder
mod Steps
