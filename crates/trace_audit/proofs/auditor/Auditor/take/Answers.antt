use Rattle.trace_audit.proofs.auditor.Auditor.take.Goals as goal

pub returns-then-self-len : goal.returns-then-self-len
returns-then-self-len c = record { takes = c.take_left.ensures.takes c.args.steps.now }
