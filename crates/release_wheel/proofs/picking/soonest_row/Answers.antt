use Rattle.std.proofs.Common.{ℕ, get_or, sym, subst, ◌∙◌}
use Rattle.release_wheel.specs.Taking.{IsSoonest}
use Rattle.bit_sets.specs.Rows.{rows_left}
use Rattle.release_wheel.proofs.RowPicking.{looking-end, looking-start}
use Rattle.bit_sets.proofs.Shared.{none-left}
use Rattle.release_wheel.proofs.picking.soonest_row.Goals as goal

pub look_through-low-requires-clause-soonest : goal.look_through-low-requires-clause-soonest
look_through-low-requires-clause-soonest c =
    let row = c.first-row in
    let P : ℕ → Type 0 = λ rest. IsSoonest c.args.lasts.now c.args.rows rest row.result (get_or c.args.lasts.now row.result 0) in
    subst P (sym c.rest_of.ensures.rows) (looking-start c.args.lasts.now c.args.rows row.result row.ensures.stands row.ensures.none_before)

pub look_through-requires-clause-soonest : goal.look_through-requires-clause-soonest
look_through-requires-clause-soonest c =
    let low = c.look_through-low in
    let P : ℕ → Type 0 = λ rest. IsSoonest c.args.lasts.now c.args.rows rest low.result.row low.result.last in
    subst P (sym c.next_word.ensures.rows) low.ensures.soonest

pub returns : goal.returns
returns c =
    let last = c.look_through in
    record {
      first = looking-end c.args.lasts.now c.args.rows (rows_left last.result.rest) last.result.row last.result.last last.ensures.soonest
          (none-left last.result.rest last.ensures.done (last.ensures.behind ∙ c.next_word.ensures.last));
    }
