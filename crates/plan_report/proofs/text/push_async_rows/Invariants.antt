use Rattle.std.proofs.Common.{◌≡◌, ◌++◌}
use Rattle.std.specs.List.{flat_map}
use Rattle.std.specs.String.{string_bytes}
use Rattle.plan_report.specs.Report.{async_row, owned_below}
use Rattle.plan_report.proofs.text.push_async_rows.Given as goal

abbrev pub invariant-loop-id : goal.invariant-loop-id
invariant-loop-id l = string_bytes l.text ≡ string_bytes l.initial.text ++ flat_map (async_row l.trace l.requests) (owned_below l.owners l.id)
