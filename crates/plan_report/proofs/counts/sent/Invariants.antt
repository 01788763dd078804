use Rattle.std.proofs.Common.{◌≡◌, ℕ, ◌<◌, take, length, slice_index}
use Rattle.async_window.specs.Waiting.{frames_with}
use Rattle.plan_report.specs.Report.{identifiers}
use Rattle.plan_report.proofs.counts.sent.Given as goal

abbrev pub invariant-loop-frame : goal.invariant-loop-frame
invariant-loop-frame l = record {
  size : length l.sent.items ≡ identifiers;
  so_far : (id : ℕ) → id < identifiers → slice_index l.sent.items id ≡ frames_with (take l.frame-index l.trace) id;
}
