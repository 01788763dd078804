use Rattle.std.proofs.Common.{subst, sym}
use Rattle.std.proofs.lemmas.Result.{IfOk-weaker}
use Rattle.trace_audit.specs.Auditing.{Hears}
use Rattle.trace_audit.specs.declared.log_audit.LogAudit.{LogAudit}
use Rattle.trace_audit.proofs.Whole.{hears-row, not-end_row}
use Rattle.trace_audit.proofs.Written.{auditing-of}
use Rattle.trace_audit.proofs.log_audit.LogAudit.take.Goals as goal

pub returns-then-self : goal.returns-then-self
returns-then-self c = record { hears = c.take_behind.ensures.hears c.args.steps.now }

pub returns-in-End : goal.returns-in-End
returns-in-End c = record {
  hears = subst (λ line. Hears c.args.steps.now c.args.self.now c.take_end.new.self line c.take_end.result) (sym c.in-End.is)
      (c.take_end.ensures.hears c.args.steps.now);
}

pub take-requires-clause-can : goal.take-requires-clause-can
take-requires-clause-can c =
    auditing-of c.args.steps.now c.args.self.now c.if-self.false c.requires.can

pub take-requires-clause-not_end : goal.take-requires-clause-not_end
take-requires-clause-not_end c = not-end_row c.args.line.now c.in_default.not-End

pub returns-in_default : goal.returns-in_default
returns-in_default c =
    let old = c.args.self.now in
    let line = c.args.line.now in
    let new : LogAudit = record { auditor = c.take.new.self; ended = old.ended } in
    record {
      hears = IfOk-weaker c.take.result _ _
          (λ stands takes. hears-row c.args.steps.now old new line stands c.if-self.false c.if-self.false
          (not-end_row line c.in_default.not-End) takes)
          c.take.ensures.takes;
    }
