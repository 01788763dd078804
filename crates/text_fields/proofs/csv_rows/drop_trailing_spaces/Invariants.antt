use Rattle.std.proofs.Common.{◌≡◌, length, reverse}
use Rattle.text_fields.specs.CsvRows.{without_leading_spaces}
use Rattle.text_fields.proofs.csv_rows.drop_trailing_spaces.Given as goal

abbrev pub invariant-loop-field : goal.invariant-loop-field
invariant-loop-field l = without_leading_spaces (reverse l.field) ≡ without_leading_spaces (reverse l.fn.field)

abbrev pub decreases-loop-field : goal.decreases-loop-field
decreases-loop-field l = length l.field
