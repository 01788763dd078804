use Rattle.std.proofs.Common.{◌+◌, ◌≤◌, ◌++◌, drop, length, take, sym, ap, ◌∙◌, subst, arith}
use Rattle.std.proofs.lemmas.List.{take-append-drop}
use Rattle.trace_audit.specs.Audit.{IsAuditFault, IsAudited}
use Rattle.trace_audit.specs.Auditing.{AreRowsHeard}
use Rattle.trace_audit.proofs.Whole.{first-break, item-at, no-memory, take-length, take-next, take-whole}
use Rattle.trace_audit.proofs.auditing.audit.Goals as goal

pub take-requires-clause-can : goal.take-requires-clause-can
take-requires-clause-can c =
    (c.args.system.now, c.args.requests.now, take c.loop-place.place c.args.rows.now, c.loop-place.invariant)

pub returns-then-not-branch : goal.returns-then-not-branch
returns-then-not-branch c =
    let system = c.args.system.now in
    let steps = c.args.steps.now in
    let requests = c.args.requests.now in
    let rows = c.args.rows.now in
    let place = c.loop-place.place in
    let line = c.index-rows-place.result in
    let early = c.loop-place-test.true in
    let there = item-at rows place line early c.index-rows-place.is in
    let heard = c.loop-place.invariant in
    let more = take-next place rows line there in
    let count = take-length place rows (omega (arith, early)) in
    record {
      answer = first-break system steps requests (take place rows) rows (drop (place + 1) rows) line (place + 1) heard.stand
          (c.in_ok-take.ensures.hears.break c.if-not-branch.true system requests (take place rows) heard)
          (sym (take-append-drop (place + 1) rows) ∙ ap (λ l. l ++ drop (place + 1) rows) more) (omega (arith, count));
    }

pub loop-place-preserved : goal.loop-place-preserved
loop-place-preserved c =
    let rows = c.args.rows.now in
    let place = c.loop-place.place in
    let line = c.index-rows-place.result in
    let there = item-at rows place line c.loop-place-test.true c.index-rows-place.is in
    subst (λ l. AreRowsHeard c.args.system.now c.args.steps.now c.args.requests.now l c.take.new.self) (sym (take-next place rows line there))
    (c.in_ok-take.ensures.hears.stand c.if-not-branch.false c.args.system.now c.args.requests.now (take place rows) c.loop-place.invariant)

pub returns : goal.returns
returns c =
    let rows = c.args.rows.now in
    let place = c.loop-place.place in
    let all : length rows ≤ place = omega (arith, c.loop-place-test.false) in
    record {
      answer = c.finish.ensures.answer c.args.system.now c.args.requests.now rows
          (subst (λ l. AreRowsHeard c.args.system.now c.args.steps.now c.args.requests.now l c.loop-place.audit) (take-whole place rows all)
          c.loop-place.invariant);
    }

pub returns-in_err-take : goal.returns-in_err-take
returns-in_err-take c =
    let system = c.args.system.now in
    let steps = c.args.steps.now in
    let requests = c.args.requests.now in
    let rows = c.args.rows.now in
    record {
      answer = no-memory c.from_residual-in_err-take.result (λ done. IsAudited system steps requests rows)
          (IsAuditFault system steps requests rows) c.from_residual-in_err-take.ensures.1 tt;
    }
