use Rattle.std.proofs.Common.{◌≡◌, ◌++◌, ◌∷◌, [], length-append, subst, arith}
use Rattle.trace_audit.specs.Audit.{IsAuditFault, IsAudited}
use Rattle.trace_audit.specs.Auditing.{AreRowsHeard}
use Rattle.log_reader.proofs.Shared.{none-found}
use Rattle.trace_audit.proofs.Whole.{first-break, no-memory}
use Rattle.trace_audit.proofs.auditing.audit_read.Goals as goal

pub loop-reader-init : goal.loop-reader-init
loop-reader-init c = ([], c.new-reader.ensures.before, c.in_ok-audit.ensures.heard)

pub next_row-requires : goal.next_row-requires
next_row-requires c =
    let (read, behind, heard) = c.loop-reader.invariant in
    let (rows, are) = c.requires.text in
    record { log = (c.args.text.now, read, rows, behind, are) }

pub take-requires-clause-can : goal.take-requires-clause-can
take-requires-clause-can c =
    let (read, behind, heard) = c.loop-reader.invariant in
    (c.args.system.now, c.args.requests.now, read, heard)

pub returns-then-not-branch : goal.returns-then-not-branch
returns-then-not-branch c =
    let (read, behind, heard) = c.loop-reader.invariant in
    let system = c.args.system.now in
    let steps = c.args.steps.now in
    let requests = c.args.requests.now in
    let text = c.args.text.now in
    let line = c.in-Some.line in
    let more = rw c.in-Some.is at c.in_ok-line.ensures.more in
    let one = more text read behind in
    let counted = one.behind.counted in
    let number = c.count-number.ensures.count in
    record {
      answer = λ rows are.
          let (later, split) = c.one_log.ensures.first text c.next_row.new.reader (read ++ line ∷ []) rows one.behind are in
          first-break system steps requests read rows later line c.count-number.result heard.stand
          (c.in_ok-take.ensures.hears.break c.if-not-branch.true system requests read heard)
          split (omega (arith, number, counted, length-append read (line ∷ [])));
    }

pub returns-in_err-line : goal.returns-in_err-line
returns-in_err-line c = record {
  answer = λ rows are.
      no-memory c.from_residual-in_err-line.result (λ done. IsAudited c.args.system.now c.args.steps.now c.args.requests.now rows)
      (IsAuditFault c.args.system.now c.args.steps.now c.args.requests.now rows) c.from_residual-in_err-line.ensures.1 tt;
}

pub returns-in_err-take : goal.returns-in_err-take
returns-in_err-take c = record {
  answer = λ rows are.
      no-memory c.from_residual-in_err-take.result (λ done. IsAudited c.args.system.now c.args.steps.now c.args.requests.now rows)
      (IsAuditFault c.args.system.now c.args.steps.now c.args.requests.now rows) c.from_residual-in_err-take.ensures.1 tt;
}

pub loop-reader-smaller : goal.loop-reader-smaller
loop-reader-smaller c =
    let (read, behind, heard) = c.loop-reader.invariant in
    let more = rw c.in-Some.is at c.in_ok-line.ensures.more in
    (more c.args.text.now read behind).fewer

pub loop-reader-preserved : goal.loop-reader-preserved
loop-reader-preserved c =
    let (read, behind, heard) = c.loop-reader.invariant in
    let line = c.in-Some.line in
    let more = rw c.in-Some.is at c.in_ok-line.ensures.more in (
      read ++ line ∷ [],
      (more c.args.text.now read behind).behind,
      c.in_ok-take.ensures.hears.stand c.if-not-branch.false c.args.system.now c.args.requests.now read heard,
    )

pub returns : goal.returns
returns c =
    let (read, behind, heard) = c.loop-reader.invariant in
    let text = c.args.text.now in
    let all = none-found c.in_ok-line.field-0 c.in_default.not-Some c.in_ok-line.ensures.all in
    record {
      answer = λ rows are.
          let same : read ≡ rows = c.one_log.ensures.one text read rows (all text read behind) are in
          c.finish.ensures.answer c.args.system.now c.args.requests.now rows
          (subst (λ l. AreRowsHeard c.args.system.now c.args.steps.now c.args.requests.now l c.loop-reader.audit) same heard);
    }
