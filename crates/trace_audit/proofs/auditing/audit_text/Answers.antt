use Rattle.std.proofs.Common.{◌≡◌, sym, subst}
use Rattle.log_reader.specs.Row.{AreRowsOf}
use Rattle.trace_audit.specs.Audit.{IsAudited}
use Rattle.trace_audit.proofs.auditing.audit_text.Goals as goal

pub returns-then-branch : goal.returns-then-branch
returns-then-branch c = record {
  answer = λ rows are.
      let log = c.in_ok-is_written_log.ensures.yes c.if-branch.true in
      let same : log.rows ≡ rows = c.one_log.ensures.one c.args.text.now log.rows rows
      (subst (λ l. AreRowsOf l log.rows) (sym log.written) (c.written_rows.ensures.back log.rows log.legal)) are in
      subst (IsAudited c.args.system.now c.args.steps.now c.args.requests.now) same log.audited;
}
