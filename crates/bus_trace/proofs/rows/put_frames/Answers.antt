use Rattle.std.proofs.Common.{◌≡◌, ◌+◌, ◌-◌, ◌++◌, All, drop, map, sym, ap, ◌∙◌, subst, arith}
use Rattle.std.proofs.lemmas.List.{drop_all}
use Rattle.std.proofs.lemmas.List.Elements.{All-nil}
use Rattle.std.proofs.Math.Seq.{drop-length}
use Rattle.log_reader.specs.Row.{IsLogRow, row_text, text_of_rows}
use Rattle.log_reader.specs.declared.row.LogRow.TheVariants.{Frame}
use Rattle.bus_trace.proofs.PutRows.{frame_rows-at, frames_told-at}
use Rattle.bus_trace.proofs.rows.put_frames.Goals as goal

pub loop-number-init : goal.loop-number-init
loop-number-init c =
    let frames = c.args.frames.now in
    record {
      rows = drop_all 1024 c.args.rows.now (omega (arith, c.told-rows)) ∙ sym (ap (λ l. text_of_rows (map Frame l)) (drop-length frames));
      told = subst (λ l. All IsLogRow (map Frame l)) (sym (drop-length frames)) (All-nil IsLogRow);
      within = omega arith;
      few = omega arith;
    }

pub loop-number-preserved : goal.loop-number-preserved
loop-number-preserved c =
    let frames = c.args.frames.now in
    let sent = c.index-frames-number.result in
    let l = c.loop-number in
    let k = l.number - 1 in
    let back : l.number ≡ k + 1 = omega (arith, c.loop-number-test.true) in
    record {
      rows = c.put_frame-place.ensures.row
          ∙ ap (λ r. row_text (Frame sent) ++ r) (l.invariant.rows ∙ ap (λ n. text_of_rows (map Frame (drop n frames))) back)
          ∙ sym (frame_rows-at frames k _ sent (omega (arith, l.auto.number, c.loop-number-test.true)) (sym c.index-frames-number.is));
      told = frames_told-at frames k _ sent (omega (arith, l.auto.number, c.loop-number-test.true)) (sym c.index-frames-number.is)
          (subst (λ n. All IsLogRow (map Frame (drop n frames))) back l.invariant.told) c.put_frame-place.ensures.in_range;
      within = omega (arith, c.put_frame-place.ensures.start, l.invariant.within);
      few = omega (arith, c.put_frame-place.ensures.few, l.invariant.few, l.auto.number, c.loop-number-test.true);
    }
