use Rattle.std.proofs.Common.{[], ◌∷◌, ◌++◌, refl, arith}
use Rattle.std.proofs.lemmas.List.{length-append}
use Rattle.std.proofs.lemmas.List.Elements.{All-nil, All-push}
use Rattle.log_reader.specs.Row.{IsLogRow}
use Rattle.log_reader.proofs.RowLines.{written-more, written-shorter}
use Rattle.log_reader.proofs.log_reading.behind_rows.Goals as goal

pub loop-later-init : goal.loop-later-init
loop-later-init c = (record { rows = []; legal = All-nil IsLogRow; written = refl; counted = refl }, omega arith)

pub loop-later-smaller : goal.loop-later-smaller
loop-later-smaller c =
    let one = rw c.in-Some.is at c.behind_next.ensures.row in
    written-shorter one.row c.loop-later.rest.now c.in-Some.later.now one.written

pub loop-later-preserved : goal.loop-later-preserved
loop-later-preserved c =
    let (so_far, few) = c.loop-later.invariant in
    let one = rw c.in-Some.is at c.behind_next.ensures.row in
    let shorter = written-shorter one.row c.loop-later.rest.now c.in-Some.later.now one.written in
    let more = length-append so_far.rows (one.row ∷ []) in
    let counted = so_far.counted in (
      record {
        rows = so_far.rows ++ one.row ∷ [];
        legal = All-push IsLogRow so_far.rows one.row so_far.legal one.legal;
        written = written-more c.args.bytes.now so_far.rows one.row c.loop-later.rest.now c.in-Some.later.now so_far.written one.written;
        counted = omega (arith, counted, more);
      },
      omega (arith, few, shorter),
    )
