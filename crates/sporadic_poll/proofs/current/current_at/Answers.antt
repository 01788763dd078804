use Rattle.std.proofs.Common.{◌≡◌, Some, ap, sym, ◌∙◌}
use Rattle.std.specs.List.{slice_get}
use Rattle.std.proofs.lemmas.Option.{slice_get-get_or}
use Rattle.sporadic_poll.proofs.Held.{few-all, held-all, released-all}
use Rattle.sporadic_poll.proofs.current.current_at.Goals as goal

pub returns : goal.returns
returns c =
    let placed = c.args.placed.now in
    let p = c.in_ok-p.p.now in
    let by = c.current_by.ensures.some in
    let at : slice_get placed c.args.slot ≡ Some p =
    ap (slice_get placed) (sym c.from.ensures)
    ∙ slice_get-get_or placed c.from.result p c.in_ok-p.ensures.lookup.3.0
    ∙ ap (λ x. Some x) (sym c.in_ok-p.ensures.lookup.1) in
    record {
      value = held-all placed c.requires.well_placed c.args.slot c.args.slot c.args.cycle p at c.current_by.result by;
      few = few-all c.args.slot c.args.cycle p c.current_by.result by;
      released = released-all c.args.slot c.args.cycle p c.current_by.result by;
    }
