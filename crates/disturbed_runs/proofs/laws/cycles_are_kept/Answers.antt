use Rattle.std.proofs.Common.{◌<◌, ◌≤◌}
use Rattle.std.proofs.lemmas.List.Elements.{All-contains}
use Rattle.bus_line.specs.Trace.{end_of}
use Rattle.node_model.specs.Opening.{start_of}
use Rattle.disturbed_runs.proofs.One.{cycle-kept}
use Rattle.disturbed_runs.proofs.Runs.{clean-budget}
use Rattle.disturbed_runs.proofs.laws.cycles_are_kept.Goals as goal

pub returns-clause-kept : goal.returns-clause-kept
returns-clause-kept c = λ reserve late silent sends layout asks openings count outages trace opening known room whole guarded each_once traced opened early fit budget.
    cycle-kept reserve late silent sends layout known asks openings count outages trace room whole guarded each_once traced opening opened early fit budget

pub returns-clause-clean : goal.returns-clause-clean
returns-clause-clean c = λ reserve late silent layout outages trace opening order ended is.
    clean-budget reserve late silent layout outages trace opening order
    (λ s has early. All-contains (λ x. x.start < start_of layout opening → end_of x ≤ start_of layout opening) trace s ended has early) is
