use Rattle.std.proofs.Common.{◌≡◌, ℕ, ◌<◌, ◌≤◌, take, length, slice_index}
use Rattle.async_window.specs.Waiting.{requests_of}
use Rattle.plan_report.specs.Report.{identifiers}
use Rattle.plan_report.proofs.counts.asked.Given as goal

abbrev pub invariant-loop-request : goal.invariant-loop-request
invariant-loop-request l = record {
  size : length l.asked.items ≡ identifiers;
  so_far : (id : ℕ) → id < identifiers → slice_index l.asked.items id ≡ length (requests_of (take l.request-index l.requests) id);
  few : (id : ℕ) → id < identifiers → slice_index l.asked.items id ≤ l.request-index;
}
