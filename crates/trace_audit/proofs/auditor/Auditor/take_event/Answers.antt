use Rattle.std.proofs.Common.{◌≡◌, ◌∙◌, Some, refl, sym, subst}
use Rattle.std.specs.Prelude.{slice_get}
use Rattle.cycle_engine.specs.Cycle.{cycle_of}
use Rattle.master_core.specs.History.{IsRight}
use Rattle.trace_audit.proofs.Bringing.{ends-near}
use Rattle.trace_audit.proofs.Ending.{none-breaks}
use Rattle.trace_audit.proofs.Standing.{event-breaks, event-stands}
use Rattle.trace_audit.proofs.auditor.Auditor.take_event.Goals as goal

pub rows-requires : goal.rows-requires
rows-requires c =
    let (system, requests, rows, auditing) = c.requires.can in
    record {
      near = ends-near system c.args.steps.now requests auditing.trace c.args.self.now.rerun c.follow.new.self c.args.line.now
          (c.in_ok-follow.ensures.on system requests auditing.trace auditing.again c.if-not-branch.false);
    }

pub returns : goal.returns
returns c =
    let old = c.args.self.now in
    let new = c.follow.new.self in
    let line = c.args.line.now in
    let steps = c.args.steps.now in
    let told = c.in_ok-rows.rows in
    record {
      takes = record {
        stand = λ is system requests rows auditing.
            let on = c.in_ok-follow.ensures.on system requests auditing.trace auditing.again c.if-not-branch.false in
            let rows_are = c.in_ok-rows.ensures.rows on.event (record { before = old.rerun.master.history; is = on.history }) in
            event-stands system steps requests rows old auditing line
            (record { kept = c.promise.ensures.kept }) (record { same = c.one_verdict.ensures.same }) new on
            c.requires.none_left (record { rerun = new; rows = told; came = 1 }) refl rows_are refl
            (subst (λ l. slice_get l 0 ≡ Some line) (c.as_slice.ensures.value ∙ rows_are) (c.is_at-stands.ensures.is is));
        break = λ is system requests rows auditing.
            let on = c.in_ok-follow.ensures.on system requests auditing.trace auditing.again c.if-not-branch.false in
            let rows_are = c.in_ok-rows.ensures.rows on.event (record { before = old.rerun.master.history; is = on.history }) in
            event-breaks system steps requests rows old auditing line
            (record { kept = c.promise.ensures.kept }) (record { same = c.one_verdict.ensures.same }) new on
            c.requires.none_left
            (λ there. c.is_at-stands.ensures.other is
            (subst (λ l. slice_get l 0 ≡ Some line) (sym (c.as_slice.ensures.value ∙ rows_are)) there));
      };
    }

pub returns-then-not-branch : goal.returns-then-not-branch
returns-then-not-branch c =
    let old = c.args.self.now in
    let line = c.args.line.now in
    let steps = c.args.steps.now in
    record {
      takes = record {
        stand = λ is. absurd (cc);
        break = λ is system requests rows auditing.
            none-breaks system steps requests rows old auditing (record { kept = c.promise.ensures.kept })
            (record {
              under_way = c.legal_runs.ensures.under_way;
              front = c.legal_runs.ensures.front;
              started = λ setting history trace known way cycle. c.frames_by_cycle.ensures.frames trace (cycle_of setting.layout)
                  (c.triggers_count_cycles.ensures.counted setting history trace known way) cycle;
            })
            c.requires.none_left line c.requires.not_end
            (λ event right asks. c.in_ok-follow.ensures.none c.if-not-branch.true event
            (subst (λ r. IsRight r old.rerun.master.history event) (sym auditing.again.same_rules) right) asks);
      };
    }
