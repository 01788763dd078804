use Rattle.std.proofs.Common.{refl}
use Rattle.cycle_engine.specs.Cycle.{cycle_of}
use Rattle.trace_audit.proofs.Whole.{hears-end}
use Rattle.trace_audit.proofs.log_audit.LogAudit.take_end.Goals as goal

pub returns : goal.returns
returns c =
    let old = c.args.self.now in
    let end = c.can_end-stands in
    record {
      hears = λ steps. hears-end steps old (record { auditor = old.auditor; ended = end.result })
          (record {
            under_way = c.legal_runs.ensures.under_way;
            front = c.legal_runs.ensures.front;
            started = λ setting history trace known way cycle. c.frames_by_cycle.ensures.frames trace (cycle_of setting.layout)
                (c.triggers_count_cycles.ensures.counted setting history trace known way) cycle;
          })
          (record { kept = c.promise.ensures.kept }) c.args.next end.result c.requires.going_on refl refl
          end.ensures.left end.ensures.next end.ensures.none;
    }
