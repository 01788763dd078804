-- What proofs of the crates above may take from here: lemmas about traces and what follows one, whatever is offered, and
-- about lists.
pub use Rattle.bus_line.proofs.Lists.{AllPairs-cons, AllPairs-head, AllPairs-tail, filter-none}
pub use Rattle.bus_line.proofs.Traces.{Follows-along, Follows-from_trace, Follows-joined, only-trace, trace_from_Follows, within_from_Follows}
