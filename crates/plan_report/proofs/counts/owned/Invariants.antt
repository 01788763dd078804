use Rattle.std.proofs.Common.{◌≡◌, ℕ, ◌<◌, take, length, slice_index_or, false}
use Rattle.plan_report.specs.Report.{identifiers, is_owned}
use Rattle.plan_report.proofs.counts.owned.Given as goal

abbrev pub invariant-loop-owner : goal.invariant-loop-owner
invariant-loop-owner l = record {
  size : length l.owned.items ≡ identifiers;
  so_far : (id : ℕ) → id < identifiers → slice_index_or l.owned.items id false ≡ is_owned (take l.owner-index l.owners) id;
}
