use Rattle.std.proofs.Common.{◌≡◌, Some, sym, subst}
use Rattle.std.specs.Prelude.{slice_get}
use Rattle.cycle_engine.specs.Cycle.{cycle_of}
use Rattle.trace_audit.proofs.Rows.{TraceLaws}
use Rattle.trace_audit.proofs.Standing.{left-breaks, left-stands}
use Rattle.trace_audit.proofs.auditor.Auditor.take_left.Goals as goal

pub returns : goal.returns
returns c =
    let laws : TraceLaws = record {
      under_way = c.legal_runs.ensures.under_way;
      front = c.legal_runs.ensures.front;
      started = λ setting history trace known way cycle. c.frames_by_cycle.ensures.frames trace (cycle_of setting.layout)
          (c.triggers_count_cycles.ensures.counted setting history trace known way) cycle;
    } in
    let came = c.args.self.now.came in
    let line = c.args.line.now in
    let same = c.as_slice.ensures.value in
    record {
      takes = λ steps. record {
        stand = λ is system requests rows auditing.
            left-stands system steps requests rows c.args.self.now auditing line
            (subst (λ l. slice_get l came ≡ Some line) same (c.is_at-stands.ensures.is is));
        break = λ is system requests rows auditing.
            left-breaks system steps requests rows c.args.self.now auditing line laws c.requires.left
            (λ there. c.is_at-stands.ensures.other is (subst (λ l. slice_get l came ≡ Some line) (sym same) there));
      };
    }
