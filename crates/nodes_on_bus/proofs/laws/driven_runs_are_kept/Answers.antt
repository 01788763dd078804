use Rattle.nodes_on_bus.specs.Duties.{keeps_guard}
use Rattle.master_core.specs.Openings.{openings_of}
use Rattle.nodes_on_bus.proofs.Driven.{guarded, run}
use Rattle.nodes_on_bus.proofs.Kept.{run-leaves}
use Rattle.nodes_on_bus.proofs.laws.driven_runs_are_kept.Goals as goal

pub returns : goal.returns
returns c = record {
  kept = λ setting reserve late silent senders loads history outages trace reserved whole forgets legal driven within.
      c.disturbed_runs_are_kept.ensures.kept setting reserve late silent (keeps_guard reserve late setting.layout) history outages trace
      reserved whole forgets (guarded reserve late setting.layout) legal
      (run reserve late silent setting.sends setting.layout (openings_of history) senders loads outages _ trace
      (run-leaves setting reserve history reserved legal) driven)
      within;
}
