use Rattle.cycle_engine.specs.Cycle.{cycle_of}
use Rattle.replay_run.proofs.Shared.{owner-of}
use Rattle.trace_audit.proofs.Fronts.{all-stand}
use Rattle.trace_audit.proofs.laws.whole_logs_stand.Goals as goal

pub returns : goal.returns
returns c = record {
  stand = λ system steps requests rows is legal log.
      let asynchronous = c.requests_of_owners.ensures.asynchronous system.owners requests is.are_owners
      (λ k d within. owner-of system.owners _ (legal.each k d within).owned) in
      all-stand
      (record {
        under_way = c.legal_runs.ensures.under_way;
        front = c.legal_runs.ensures.front;
        started = λ setting history trace known way cycle. c.frames_by_cycle.ensures.frames trace (cycle_of setting.layout)
            (c.triggers_count_cycles.ensures.counted setting history trace known way) cycle;
      })
      c.legal_runs.ensures.cut system steps requests
      (record { known = is.layout; same_window = is.same_window; same_slots = is.same_slots; asynchronous = asynchronous })
      rows log;
}
