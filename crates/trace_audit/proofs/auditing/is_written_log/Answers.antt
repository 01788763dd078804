use Rattle.std.proofs.Common.{◌≡◌, [], ◌∷◌, ◌++◌, length, refl, sym, ap, ◌∙◌}
use Rattle.std.proofs.lemmas.Bool.{eqb-true}
use Rattle.std.proofs.lemmas.List.{append-nil, nil_from_length}
use Rattle.std.proofs.lemmas.List.Elements.{All-append, All-nil}
use Rattle.log_reader.specs.Row.{IsLogRow, text_of_rows}
use Rattle.trace_audit.proofs.Written.{rows-more, rows-shorter}
use Rattle.trace_audit.proofs.auditing.is_written_log.Goals as goal

pub loop-rest-init : goal.loop-rest-init
loop-rest-init c = record { rows = []; legal = All-nil IsLogRow; written = refl; heard = c.in_ok-audit.ensures.heard }

pub take_written-requires-clause-can : goal.take_written-requires-clause-can
take_written-requires-clause-can c =
    let up_to = c.loop-rest.invariant in
    (c.args.system.now, c.args.requests.now, up_to.rows, up_to.heard)

pub loop-rest-smaller : goal.loop-rest-smaller
loop-rest-smaller c =
    let takes = rw c.in-Some.is at c.in_ok-later.ensures.on in
    rows-shorter takes.line takes.later c.loop-rest.rest.now c.in-Some.later.now takes.begins.written

pub loop-rest-preserved : goal.loop-rest-preserved
loop-rest-preserved c =
    let up_to = c.loop-rest.invariant in
    let takes = rw c.in-Some.is at c.in_ok-later.ensures.on in
    record {
      rows = up_to.rows ++ takes.line ∷ takes.later;
      legal = All-append IsLogRow up_to.rows (takes.line ∷ takes.later) up_to.legal takes.begins.legal;
      written = rows-more c.args.text.now up_to.rows (takes.line ∷ takes.later) c.loop-rest.rest.now c.in-Some.later.now
          up_to.written takes.begins.written;
      heard = takes.hears c.args.system.now c.args.requests.now up_to.rows up_to.heard;
    }

pub returns-in-Ok : goal.returns-in-Ok
returns-in-Ok c = record {
  yes = λ is.
      let up_to = c.loop-rest.invariant in
      let size = eqb-true (length c.loop-rest.rest.now) 0 (sym c.loop-rest-test.ensures) in
      let none = nil_from_length c.loop-rest.rest.now size in
      record {
        rows = up_to.rows;
        legal = up_to.legal;
        written = up_to.written ∙ ap (λ l. text_of_rows up_to.rows ++ l) none ∙ append-nil (text_of_rows up_to.rows);
        audited = rw c.in-Ok.is at (c.finish.ensures.answer c.args.system.now c.args.requests.now up_to.rows up_to.heard);
      };
}
