use Rattle.std.proofs.Common.{◌≡◌, ◌⊎◌, ◌++◌, ◌∷◌, [], length, ap, ◌∙◌, arith}
use Rattle.std.proofs.lemmas.Bool.Decides.{nat_tests}
use Rattle.std.proofs.lemmas.List.{append-nil, nil_from_length}
use Rattle.log_reader.specs.Row.{IsLogFault, text_of_rows}
use Rattle.log_reader.specs.declared.log_fault.LogFault.TheVariants.{Memory, Row}
use Rattle.log_reader.proofs.Readings.{no-rows, none-faulty, none-found, passes-match, passes-on, same-fault}
use Rattle.log_reader.proofs.RowLines.{records-text}
use Rattle.log_reader.proofs.log_reading.check_log.Goals as goal

pub returns-then-is_empty-clause-rows : goal.returns-then-is_empty-clause-rows
returns-then-is_empty-clause-rows c =
    let found = c.behind_rows-count.ensures.rows in
    let size : length c.behind_rows-count.result.0.now ≡ 0 = grind (arith, nat_tests) in
    let none = nil_from_length c.behind_rows-count.result.0.now size in (
      found.rows,
      (
        found.legal,
        records-text c.args.bytes.now found.rows found.legal
            (found.written ∙ ap (λ l. text_of_rows found.rows ++ l) none ∙ append-nil (text_of_rows found.rows)),
      ),
    )

pub returns-then-is_empty-clause-first : goal.returns-then-is_empty-clause-first
returns-then-is_empty-clause-first c = λ number first.
    let (rows, are) = returns-then-is_empty-clause-rows c in
    none-faulty c.args.bytes.now rows are.0 are.1 number first

pub returns-in_err-_row-clause-faulty : goal.returns-in_err-_row-clause-faulty
returns-in_err-_row-clause-faulty c =
    let (rows, behind) = c.loop-reader.invariant in
    passes-on c.from_residual.result (IsLogFault c.args.bytes.now) c.in_err-_row.field-0.0 c.from_residual.ensures.1
    (c.in_err-_row.ensures.faulty c.args.bytes.now rows behind)

pub returns-in_err-_row-clause-complete : goal.returns-in_err-_row-clause-complete
returns-in_err-_row-clause-complete c = λ rows are.
    let (read, behind) = c.loop-reader.invariant in
    let fault = c.in_err-_row.field-0.0 in
    passes-on c.from_residual.result (λ f. f ≡ Memory) fault c.from_residual.ensures.1
    (no-rows c.args.bytes.now fault (c.in_err-_row.ensures.faulty c.args.bytes.now read behind) rows are)

pub returns-in_err-_row-clause-first : goal.returns-in_err-_row-clause-first
returns-in_err-_row-clause-first c = λ number first.
    let (read, behind) = c.loop-reader.invariant in
    let fault = c.in_err-_row.field-0.0 in
    passes-match c.from_residual.result _ (λ f. (f ≡ Row number) ⊎ (f ≡ Memory)) fault c.from_residual.ensures.1
    (same-fault c.args.bytes.now fault (c.in_err-_row.ensures.faulty c.args.bytes.now read behind) number first)

pub loop-reader-smaller : goal.loop-reader-smaller
loop-reader-smaller c =
    let (rows, behind) = c.loop-reader.invariant in
    let more = rw c.in-Some.is at c.in_ok-_row.ensures.more in
    (more c.args.bytes.now rows behind).fewer

pub loop-reader-preserved : goal.loop-reader-preserved
loop-reader-preserved c =
    let (rows, behind) = c.loop-reader.invariant in
    let more = rw c.in-Some.is at c.in_ok-_row.ensures.more in
    let one = more c.args.bytes.now rows behind in
    (rows ++ c.in-Some._row ∷ [], one.behind)

pub returns-clause-rows : goal.returns-clause-rows
returns-clause-rows c =
    let (rows, behind) = c.loop-reader.invariant in
    let all = none-found c.in_ok-_row.field-0 c.in_default.not-Some c.in_ok-_row.ensures.all in
    (rows, all c.args.bytes.now rows behind)

pub returns-clause-first : goal.returns-clause-first
returns-clause-first c = λ number first.
    let (rows, are) = returns-clause-rows c in
    none-faulty c.args.bytes.now rows are.0 are.1 number first
