use Rattle.cycle_engine.specs.Cycle.{cycle_of}
use Rattle.trace_audit.proofs.Whole.{hears-none}
use Rattle.trace_audit.proofs.log_audit.LogAudit.take_behind.Goals as goal

pub returns : goal.returns
returns c = record {
  hears = λ steps. hears-none steps c.args.self.now c.args.self.now
      (record {
        under_way = c.legal_runs.ensures.under_way;
        front = c.legal_runs.ensures.front;
        started = λ setting history trace known way cycle. c.frames_by_cycle.ensures.frames trace (cycle_of setting.layout)
            (c.triggers_count_cycles.ensures.counted setting history trace known way) cycle;
      })
      c.args.line.now c.requires.ended;
}
