use Rattle.std.proofs.Common.{take}
use Rattle.trace_audit.specs.Auditing.{AreRowsHeard}
use Rattle.trace_audit.proofs.auditing.audit.Given as goal

-- the rows so far are heard
abbrev pub invariant-loop-place : goal.invariant-loop-place
invariant-loop-place l = AreRowsHeard l.system l.steps l.requests (take l.place l.rows) l.audit
