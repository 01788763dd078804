use Rattle.std.proofs.Common.{◌≡◌, take, arith, ◌∙◌, sym}
use Rattle.std.proofs.lemmas.List.{take_all}
use Rattle.std.proofs.lemmas.Bool.{eqb-true, eq-eqb}
use Rattle.planner_policies.proofs.Held.{valid-sound, valid-complete}
use Rattle.planner_policies.proofs.planning.valid.Goals as goal

pub returns : goal.returns
returns c =
    let placed = c.args.ranked.now.placed in
    let rows = c.rows-rows.result.now in
    let cycle = c.args.state.now.cycle in
    let pending = c.args.state.now.pending in
    let rest = c.loop-row.rest in
    let rows-is : take c.loop-row.row-index rows ≡ rows = take_all c.loop-row.row-index rows (omega arith) in
    let left = rw rows-is at c.loop-row.invariant in
    let well = c.rows-rows.ensures.well_placed in
    let same = c.rows-rows.ensures.same in
    record {
      valid = (
        λ empty. valid-sound placed rows cycle pending rest well same left
            (eqb-true rest c.empty.result (sym c.eq.ensures ∙ empty) ∙ c.empty.ensures.number),
        λ valid. c.eq.ensures ∙ eq-eqb rest c.empty.result
            (valid-complete placed rows cycle pending rest well same left c.known.ensures.below valid ∙ sym c.empty.ensures.number),
      );
    }
