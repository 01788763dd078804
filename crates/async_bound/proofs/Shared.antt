-- What proofs of the crates above may take from here: lemmas about the elements of lists, and about sums over them.
pub use Rattle.async_bound.proofs.Lists.{Contains-here, Contains-later, Contains-cases, Contains-nil, Contains-any, Contains-map, Contains-filter, AllPairs-head, AllPairs-tail}
pub use Rattle.async_bound.proofs.Sums.{sum-le-two, sum-le, sum-le-one}
