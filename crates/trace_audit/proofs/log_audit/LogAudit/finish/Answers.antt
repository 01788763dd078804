use Rattle.trace_audit.proofs.Whole.{is-audited, is-unfinished, not-ended}
use Rattle.trace_audit.proofs.log_audit.LogAudit.finish.Goals as goal

pub returns-then-not-self : goal.returns-then-not-self
returns-then-not-self c = record {
  answer = λ system requests rows heard. not-ended system c.args.steps.now requests rows c.args.self.now heard c.if-not-self.true;
}

pub returns-then-not-is_whole : goal.returns-then-not-is_whole
returns-then-not-is_whole c = record {
  answer = λ system requests rows heard.
      is-unfinished system c.args.steps.now requests rows c.args.self.now heard (record { kept = c.promise.ensures.kept })
      c.if-not-self.false (c.is_whole.ensures.none c.if-not-is_whole.true);
}

pub returns : goal.returns
returns c = record {
  answer = λ system requests rows heard.
      is-audited system c.args.steps.now requests rows c.args.self.now heard (record { kept = c.promise.ensures.kept })
      c.if-not-self.false c.requires.steps.each (c.is_whole.ensures.opened c.if-not-is_whole.false)
      (c.is_whole.ensures.answered c.if-not-is_whole.false);
}
