use Rattle.std.proofs.Common.{ℕ, ◌++◌, codes, ap, ◌∙◌}
use Rattle.std.specs.Fmt.{decimal}
use Rattle.poll_run.specs.RequestRows.{ride_row}
use Rattle.poll_run.proofs.Rows.{in-a_row}
use Rattle.poll_run.proofs.request_rows.ride_row.Goals as goal

pub returns : goal.returns
returns c = record {
  row = c.row_from.ensures.bytes ∙ c.put_first-start.ensures.row
      ∙ ap (λ rest. codes "ride," ++ (decimal c.from.result ++ rest))
      (c.put_field-start-3.ensures.row
      ∙ ap (λ rest. codes "," ++ (decimal c.args.number ++ rest))
      (c.put_field-start-2.ensures.row
      ∙ ap (λ rest. codes "," ++ (decimal c.args.release ++ rest))
      (c.put_field-start.ensures.row ∙ ap (λ rest. codes "," ++ (decimal c.args.cycle ++ rest)) c.put_line_feed-start.ensures.row)))
      ∙ in-a_row (codes "ride,") (decimal c.from.result) (codes ",") (decimal c.args.number) (decimal c.args.release) (decimal c.args.cycle) (codes "\n")
      ∙ ap (λ (slot : ℕ). ride_row slot c.args.number c.args.release c.args.cycle) c.from.ensures;
}
