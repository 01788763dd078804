use Rattle.std.proofs.Common.{◌≡◌, true, ap, ◌∙◌, arith}
use Rattle.plan_check.specs.declared.plan_runs.MaskRun.{MaskRun}
use Rattle.plan_check.specs.PlanText.{is_other, run_line}
use Rattle.plan_check.proofs.LineReads.{follows-other, of-version, run-same}
use Rattle.plan_check.proofs.PlanReads.{clean-run}
use Rattle.text_fields.proofs.Shared.{line-is, no_line}
use Rattle.plan_check.proofs.plan_reading.next_run.Goals as goal
use Rattle.plan_check.proofs.plan_reading.next_run.Goals.{else-run-ge1-via-then-run-ge1+then-run-most+else-is_other, else-run-ge1-via-then-run-ge1+else-run-most, else-run-ge1-via-else-run-ge1}

pub returns-in_err-line-clause-none : goal.returns-in_err-line-clause-none
returns-in_err-line-clause-none c =
    rw c.from_residual.ensures
    (λ run after may few small is. no_line c.args.text.now (run_line c.args.version run) after c.in_err-line.ensures.none is)

pub returns-in_err-run-clause-none : goal.returns-in_err-run-clause-none
returns-in_err-run-clause-none c =
    rw c.from_residual-in_err-run.ensures
    (λ run after may few small is.
    c.in_err-run.ensures.none run (of-version c.args.version c.args.last run may small)
    (line-is c.args.text.now c.in_ok-line.line.now c.in_ok-line.after.now (run_line c.args.version run) after c.in_ok-line.ensures.split
    c.in_ok-line.ensures.line (clean-run c.args.version run small) is))

pub returns-else-run-ge1-clause-none : goal.returns-else-run-ge1-clause-none
returns-else-run-ge1-clause-none c = λ run after may few small is.
    let read = c.in_ok-run.run' in
    let line = line-is c.args.text.now c.in_ok-line.line.now c.in_ok-line.after.now (run_line c.args.version run) after c.in_ok-line.ensures.split
    c.in_ok-line.ensures.line (clean-run c.args.version run small) is in
    let same : read ≡ run = grind (arith, run-same, of-version) in
    let counts : read.count ≡ run.count = ap (λ (r : MaskRun). r.count) same in
    let other : is_other c.args.last read.mask c.args.version ≡ true
    = ap (λ (r : MaskRun). is_other c.args.last r.mask c.args.version) same ∙ follows-other c.args.version c.args.last run may.follows in
    let some = may.some in
    elim c.else-run-ge1.branch [
      | else-run-ge1-via-then-run-ge1+then-run-most+else-is_other w ↦ let test = w.is_other.ensures.other in let none = w.if-is_other in absurd (cc)
      | else-run-ge1-via-then-run-ge1+else-run-most w ↦ let high = w.if-run-most.false in absurd (omega arith)
      | else-run-ge1-via-else-run-ge1 w ↦ let low = w.if-run-ge1.false in absurd (omega arith)
    ]
