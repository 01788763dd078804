use Rattle.std.proofs.Common.{◌≡◌, ◌+◌, ◌-◌, ◌++◌, All, drop, length, sym, ap, ◌∙◌, subst, arith}
use Rattle.std.proofs.lemmas.List.{drop_all}
use Rattle.std.proofs.lemmas.List.Elements.{All-nil}
use Rattle.std.proofs.Math.Seq.{drop-length}
use Rattle.bus_trace.specs.LogRows.{plan_told}
use Rattle.log_reader.specs.Row.{IsLogRow, row_text, text_of_rows}
use Rattle.log_reader.specs.declared.row.LogRow.TheVariants.{Plan}
use Rattle.bus_trace.proofs.Plans.{plan_rows-at, plans_told-at}
use Rattle.bus_trace.proofs.rows.plan_rows.Goals as goal

pub loop-number-init : goal.loop-number-init
loop-number-init c =
    let masks = c.args.masks.now in
    let after = c.args.from + length masks in
    record {
      rows = drop_all 1024 c.args.rows.now (omega (arith, c.told-rows)) ∙ sym (ap (λ l. text_of_rows (plan_told after l)) (drop-length masks));
      told = subst (λ l. All IsLogRow (plan_told after l)) (sym (drop-length masks)) (All-nil IsLogRow);
      within = omega arith;
      few = omega arith;
    }

pub loop-number-preserved : goal.loop-number-preserved
loop-number-preserved c =
    let from = c.args.from in
    let masks = c.args.masks.now in
    let mask = c.index-masks-number.result in
    let l = c.loop-number in
    let k = l.number - 1 in
    let back : l.number ≡ k + 1 = omega (arith, c.loop-number-test.true) in
    record {
      rows = c.put_plan-place.ensures.row
          ∙ ap (λ r. row_text (Plan (from + k) mask) ++ r) (l.invariant.rows ∙ ap (λ n. text_of_rows (plan_told (from + n) (drop n masks))) back)
          ∙ sym (plan_rows-at from masks k _ mask (omega (arith, l.auto.number, c.loop-number-test.true)) (sym c.index-masks-number.is));
      told = plans_told-at from masks k _ mask (omega (arith, l.auto.number, c.loop-number-test.true)) (sym c.index-masks-number.is)
          (subst (λ n. All IsLogRow (plan_told (from + n) (drop n masks))) back l.invariant.told) c.put_plan-place.ensures.in_range;
      within = omega (arith, c.put_plan-place.ensures.start, l.invariant.within);
      few = omega (arith, c.put_plan-place.ensures.few, l.invariant.few, l.auto.number, c.loop-number-test.true);
    }
