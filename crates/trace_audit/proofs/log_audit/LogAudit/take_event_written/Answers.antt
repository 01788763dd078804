use Rattle.std.proofs.Common.{sym}
use Rattle.trace_audit.proofs.Bringing.{ends-near, some-by}
use Rattle.trace_audit.proofs.Written.{auditing-of, event-written}
use Rattle.trace_audit.proofs.log_audit.LogAudit.take_event_written.Goals as goal

pub follow_asked-requires-clause-going : goal.follow_asked-requires-clause-going
follow_asked-requires-clause-going c =
    let (system, requests, rows, auditing) = auditing-of c.args.steps.now c.args.self.now c.requires.going_on c.requires.can in
    (system, requests, auditing.trace, auditing.again)

pub follow_asked-requires-clause-ahead : goal.follow_asked-requires-clause-ahead
follow_asked-requires-clause-ahead c =
    let (system, requests, rows, auditing) = auditing-of c.args.steps.now c.args.self.now c.requires.going_on c.requires.can in
    auditing.ahead

pub follow_asked-requires-clause-few : goal.follow_asked-requires-clause-few
follow_asked-requires-clause-few c =
    let (system, requests, rows, auditing) = auditing-of c.args.steps.now c.args.self.now c.requires.going_on c.requires.can in
    auditing.opened

pub behind_rows-requires : goal.behind_rows-requires
behind_rows-requires c =
    let (system, requests, rows, auditing) = auditing-of c.args.steps.now c.args.self.now c.requires.going_on c.requires.can in
    let (asked, on) = c.in_ok-follow_asked.ensures.on system requests auditing.trace auditing.again c.if-not-branch.false in
    record { near = ends-near system c.args.steps.now requests auditing.trace c.args.self.now.auditor.rerun c.follow_asked.new.self asked on }

pub returns : goal.returns
returns c =
    let steps = c.args.steps.now in
    let old = c.args.self.now in
    let (system, requests, rows, auditing) = auditing-of steps old c.requires.going_on c.requires.can in
    let (asked, on) = c.in_ok-follow_asked.ensures.on system requests auditing.trace auditing.again c.if-not-branch.false in
    record {
      on = some-by c.behind_rows.result c.behind_rows.ensures.rows (λ rest begins.
          event-written steps old c.requires.going_on c.requires.none_left (record { kept = c.promise.ensures.kept })
          (record { same = c.one_verdict.ensures.same }) c.follow_asked.new.self on.event on.history
          (λ system requests trace again. c.in_ok-follow_asked.ensures.on system requests trace again c.if-not-branch.false)
          c.args.text.now rest.now (begins on.event (record { before = old.auditor.rerun.master.history; is = on.history })));
    }
