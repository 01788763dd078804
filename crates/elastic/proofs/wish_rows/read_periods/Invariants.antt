-- The periods so far and those of the fields that are left are those of the row.
use Rattle.std.proofs.Common.{◌≡◌, ◌++◌, ◌+◌, ◌-◌, length, map, option_map}
use Rattle.text_fields.specs.RecordReading.{fields_in}
use Rattle.text_fields.specs.CsvRows.{trimmed}
use Rattle.elastic.specs.WishFields.{numbers_from}
use Rattle.elastic.proofs.wish_rows.read_periods.Given as goal

abbrev pub invariant-loop-place : goal.invariant-loop-place
invariant-loop-place l =
    let row = map trimmed (fields_in l.fn.row) in
    record {
      value : option_map (λ rest. l.periods.items ++ rest) (numbers_from row l.place (length row - l.place))
          ≡ numbers_from row 7 (length row - 7);
      many : length l.periods.items + 7 ≡ l.place;
    }
