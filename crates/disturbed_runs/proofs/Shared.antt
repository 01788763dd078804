-- What proofs of the crates above may take from here: how many times outages take, what may start in a cycle, and that each
-- cycle within its budget keeps it and is kept.
pub use Rattle.disturbed_runs.proofs.Drain.{parts, parts-more, parts-one, some-or_none}
pub use Rattle.disturbed_runs.proofs.Cycle.{any_outage, outage_span, outage_start}
pub use Rattle.disturbed_runs.proofs.Lists.{Any-element}
pub use Rattle.disturbed_runs.proofs.Requests.{keep-guard}
pub use Rattle.disturbed_runs.proofs.Runs.{all-keep, before-cycle, by, fits-all, one-kept, might}
