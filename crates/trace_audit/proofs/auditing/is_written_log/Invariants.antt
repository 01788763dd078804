use Rattle.std.proofs.Common.{length}
use Rattle.trace_audit.specs.Auditing.{IsHeardUpTo}
use Rattle.trace_audit.proofs.auditing.is_written_log.Given as goal

-- the rows whose texts stand before the rest are heard
abbrev pub invariant-loop-rest : goal.invariant-loop-rest
invariant-loop-rest l = IsHeardUpTo l.system l.steps l.requests l.text l.rest l.audit

abbrev pub decreases-loop-rest : goal.decreases-loop-rest
decreases-loop-rest l = length l.rest
