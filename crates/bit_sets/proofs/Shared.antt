-- What proofs of the crates above may take from here: lemmas about the definitions of this crate.
pub use Rattle.bit_sets.proofs.Bits.{bit_at-low, bit_at-out, bit_at-shifted, has_bit-above, has_bit-and, has_bit-and-not, has_bit-empty, has_bit-high, has_bit-low, has_bit-none, has_bit-or, has_bit-with, has_bit-without, not-empty, turned-eq, with-below}
pub use Rattle.bit_sets.proofs.Least.{IsLeastBelow, least_where-least, least_where-of}
pub use Rattle.bit_sets.proofs.LeastBit.{least-of, none-of}
pub use Rattle.bit_sets.proofs.LeastWhere.{least_where-same}
pub use Rattle.bit_sets.proofs.Lowest.{IsLowest, from-first, has_bit-without_lowest, lowest-64, not-first}
pub use Rattle.bit_sets.proofs.RowsLeft.{high-set, low-set, none-left, rows_at}
pub use Rattle.bit_sets.proofs.SetOf.{empty-set, has_bit-set_of, set_of-below, set_of-from_slots, set_of-has, set_of-has_bit, set_of-none, set_of-passes, set_of-same, without-less}
pub use Rattle.bit_sets.proofs.Sums.{sum_where-add, sum_where-count, sum_where-fewer, sum_where-le, sum_where-less, sum_where-costs, sum_where-member, sum_where-most, sum_where-next, sum_where-none, sum_where-one, sum_where-or, sum_where-same, sum_where-with, sum_where-without, sum_where-zero}
