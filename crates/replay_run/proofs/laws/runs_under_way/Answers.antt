use Rattle.cycle_engine.proofs.Shared.{bytes_of-whole}
use Rattle.kept_run.specs.Setting.{IsSetting}
use Rattle.replay_run.specs.Run.{setting_of}
use Rattle.replay_run.proofs.Shared.{owner-of}
use Rattle.replay_run.proofs.laws.runs_under_way.Goals as goal

pub returns : goal.returns
returns c = record {
  under_way = λ system requests history trace is are kept.
      let asynchronous = c.requests_of_owners.ensures.asynchronous system.owners requests is.are_owners
      (λ k d within. owner-of system.owners _ (are.each k d within).owned) in
      let known : IsSetting (setting_of system requests) = record { known = is.layout; same_window = is.same_window; same_slots = is.same_slots; asynchronous = asynchronous } in
      c.legal_runs.ensures.under_way (setting_of system requests) history trace known bytes_of-whole kept.legal kept.can_trace;
}
