-- A plan that keeps the table has no wrong line, begins rightly, and has no breach.
use Rattle.std.proofs.Common.{sym, subst, true≢false}
use Rattle.plan_check.specs.Certificate.{CertificateView}
use Rattle.plan_check.specs.PlanKept.{IsTaken}
use Rattle.fttcan_c.proofs.Taken.{no_line, not_astray}
use Rattle.fttcan_c.proofs.checked.found_in.Goals as goal

pub returns-in-Err-Line-clause-complete : goal.returns-in-Err-Line-clause-complete
returns-in-Err-Line-clause-complete c taken =
    absurd (no_line c.args.text.now _ _ taken.certificate c.in-Err-Line.field-0-is c.in-Err-Line.ensures.line taken.read)

pub returns-then-not-branch-clause-complete : goal.returns-then-not-branch-clause-complete
returns-then-not-branch-clause-complete c taken =
    absurd (not_astray c.args.list.now _ taken.certificate _ c.in_ok-begins_right.ensures.right c.if-not-branch.true
    (c.in-Ok.ensures.back taken.certificate taken.read) taken.begins)

pub returns-clause-complete : goal.returns-clause-complete
returns-clause-complete c taken =
    absurd (true≢false (sym (c.in-Err.ensures.ok.1 (subst (λ (certificate : CertificateView). IsTaken c.args.list.now c.args.window certificate)
    (sym (c.in-Ok.ensures.back taken.certificate taken.read)) taken.taken))))
