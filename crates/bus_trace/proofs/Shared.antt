-- What proofs of the crates above may take from here: lemmas about the definitions of this crate.
pub use Rattle.bus_trace.proofs.LogHistory.{events_rows-append, events_rows-push, one_or_none}
pub use Rattle.bus_trace.proofs.Width.{width-le}
pub use Rattle.bus_trace.proofs.LogTrace.{started_in-later, starts-elsewhere, trigger_count_with-le, trigger_count_with-trigger}
