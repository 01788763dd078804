-- A field more, which is a number or not.
use Rattle.std.proofs.Common.{◌≡◌, ◌+◌, ◌-◌, ◌∷◌, [], suc, true, length, length-append, map, Some, None, sym, ap, ◌∙◌, arith, rules}
use Rattle.std.proofs.lemmas.List.{length-map}
use Rattle.std.specs.Result.{is_ok}
use Rattle.text_fields.specs.RecordReading.{fields_in}
use Rattle.text_fields.specs.CsvRows.{number_at, trimmed}
use Rattle.elastic.specs.WishFields.{periods_in}
use Rattle.elastic.proofs.RowPeriods.{no_number, number_more}
use Rattle.elastic.proofs.wish_rows.read_periods.Goals as goal

pub returns-in_default : goal.returns-in_default
unfolding periods_in
returns-in_default c =
    let row = map trimmed (fields_in c.args.row.now) in
    let place = c.loop-place.place in
    let left : length row - place ≡ suc (length row - (place + 1)) = omega (arith, c.loop-place-test.true, c.loop-place.auto.place-end, c.len-place-end.ensures.count, length-map (fields_in c.args.row.now) trimmed) in
    let none : number_at row place 0 65535 ≡ None = sym (rw (c.new.ensures.start, c.new.ensures.end) at c.in_default.ensures.value) in
    let so_far = rw left at c.loop-place.invariant.value in
    record { value = sym (no_number row place (length row - (place + 1)) c.loop-place.periods.items none) ∙ so_far; many = tt }

pub loop-place-preserved : goal.loop-place-preserved
loop-place-preserved c =
    let row = map trimmed (fields_in c.args.row.now) in
    let place = c.loop-place.place in
    let left : length row - place ≡ suc (length row - (place + 1)) = omega (arith, c.loop-place-test.true, c.loop-place.auto.place-end, c.len-place-end.ensures.count, length-map (fields_in c.args.row.now) trimmed) in
    let some : number_at row place 0 65535 ≡ Some c.in-Some.period = sym (rw (c.new.ensures.start, c.new.ensures.end) at c.in-Some.ensures.value) in
    let so_far = rw left at c.loop-place.invariant.value in
    let good : is_ok c.push.result ≡ true = search rules in
    let items = rw good at c.push.ensures.items in
    record {
      value = rw items (number_more row place (length row - (place + 1)) c.loop-place.periods.items c.in-Some.period some ∙ so_far);
      many = omega (arith, ap length items, length-append c.loop-place.periods.items (c.in-Some.period ∷ []), c.loop-place.invariant.many);
    }
