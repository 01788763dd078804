use Rattle.std.proofs.Common.{false, refl}
use Rattle.trace_audit.proofs.Whole.{none-heard}
use Rattle.trace_audit.proofs.log_audit.LogAudit.begin.Goals as goal

pub returns : goal.returns
returns c = record {
  heard = none-heard c.args.system.now c.args.steps.now c.args.requests.now (record { auditor = c.in_ok-auditor.auditor; ended = false })
      c.in_ok-auditor.ensures.auditing refl;
}
