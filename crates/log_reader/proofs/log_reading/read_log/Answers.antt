use Rattle.std.proofs.Common.{◌≡◌, ◌⊎◌, subst, sym}
use Rattle.log_reader.specs.LogReading.{HasReadRows}
use Rattle.log_reader.specs.Row.{IsLogFault}
use Rattle.log_reader.specs.declared.log_fault.LogFault.TheVariants.{Memory, Row}
use Rattle.log_reader.proofs.Readings.{no-rows, none-faulty, none-found, passes-match, passes-on, same-fault, whole-back}
use Rattle.log_reader.proofs.RowLines.{records-text}
use Rattle.log_reader.proofs.log_reading.read_log.Goals as goal

pub returns-in_err-row-clause-faulty : goal.returns-in_err-row-clause-faulty
returns-in_err-row-clause-faulty c =
    passes-on c.from_residual.result (IsLogFault c.args.bytes.now) c.in_err-row.field-0.0 c.from_residual.ensures.1
    (c.in_err-row.ensures.faulty c.args.bytes.now c.loop-rows.rows.items c.loop-rows.invariant)

pub returns-in_err-row-clause-complete : goal.returns-in_err-row-clause-complete
returns-in_err-row-clause-complete c = λ rows legal are.
    let fault = c.in_err-row.field-0.0 in
    passes-match c.from_residual.result _ (λ f. f ≡ Memory) fault c.from_residual.ensures.1
    (no-rows c.args.bytes.now fault (c.in_err-row.ensures.faulty c.args.bytes.now c.loop-rows.rows.items c.loop-rows.invariant) rows (legal, are))

pub returns-in_err-row-clause-back : goal.returns-in_err-row-clause-back
returns-in_err-row-clause-back c = λ rows legal text.
    returns-in_err-row-clause-complete c rows legal (records-text c.args.bytes.now rows legal text)

pub returns-in_err-row-clause-first : goal.returns-in_err-row-clause-first
returns-in_err-row-clause-first c = λ number first.
    let fault = c.in_err-row.field-0.0 in
    passes-match c.from_residual.result _ (λ f. (f ≡ Row number) ⊎ (f ≡ Memory)) fault c.from_residual.ensures.1
    (same-fault c.args.bytes.now fault (c.in_err-row.ensures.faulty c.args.bytes.now c.loop-rows.rows.items c.loop-rows.invariant) number first)

pub loop-rows-smaller : goal.loop-rows-smaller
loop-rows-smaller c =
    let more = rw c.in-Some.is at c.in_ok-row.ensures.more in
    (more c.args.bytes.now c.loop-rows.rows.items c.loop-rows.invariant).fewer

pub loop-rows-preserved : goal.loop-rows-preserved
loop-rows-preserved c =
    let more = rw c.in-Some.is at c.in_ok-row.ensures.more in
    subst (HasReadRows c.args.bytes.now c.next_row.new.self) (sym c.in_ok-push.ensures.items)
    (more c.args.bytes.now c.loop-rows.rows.items c.loop-rows.invariant).behind

pub returns-clause-fields : goal.returns-clause-fields
returns-clause-fields c =
    let all = none-found c.in_ok-row.field-0 c.in_default.not-Some c.in_ok-row.ensures.all in
    (all c.args.bytes.now c.loop-rows.rows.items c.loop-rows.invariant).1

pub returns-clause-complete : goal.returns-clause-complete
returns-clause-complete c = λ rows legal are.
    whole-back c.args.bytes.now c.loop-rows.rows.items c.loop-rows.invariant.legal (returns-clause-fields c) rows legal are

pub returns-clause-back : goal.returns-clause-back
returns-clause-back c = λ rows legal text. returns-clause-complete c rows legal (records-text c.args.bytes.now rows legal text)

pub returns-clause-first : goal.returns-clause-first
returns-clause-first c = λ number fault.
    none-faulty c.args.bytes.now c.loop-rows.rows.items c.loop-rows.invariant.legal (returns-clause-fields c) number fault
