mod Bits
mod LeastBit
mod Least
mod LeastWhere
mod Lowest
mod RowsLeft
mod SetOf
pub mod Shared
mod Sums
