use Rattle.std.proofs.Common.{◌<◌, ap, arith, length, None, Some, ◌∙◌}
use Rattle.std.proofs.lemmas.Option.{IfSome_then, slice_get-get_or}
use Rattle.requirement_table.specs.declared.entries.Placed.{Placed}
use Rattle.plan_report.proofs.Counted.{counts-next}
use Rattle.plan_report.proofs.sent.next_at.Goals as goal

abbrev nowhere : Placed
nowhere = record { entry = record { slot = 0; node = 0; length = 0; phase = 0; period = 0; deadline = 0; priority = 0 }; origin = 0; end = None }

pub next-requires-clause-released : goal.next-requires-clause-released
next-requires-clause-released c =
    let same = c.requires.length in
    let within = c.if-place-placed.false in
    let inside : c.args.place < length c.args.tallies.now = omega (arith, same, within) in
    c.requires.released c.args.place _ (Some c.in-Some.known) (slice_get-get_or c.args.placed.now c.args.place nowhere within)
    (slice_get-get_or c.args.tallies.now c.args.place None inside ∙ ap (λ o. Some o) c.in-Some.is)

pub returns-in-Some-clause-counted : goal.returns-in-Some-clause-counted
returns-in-Some-clause-counted c =
    IfSome_then c.next.result c.next.ensures.next
    (λ next is. counts-next c.args.placed.now c.args.slot c.args.cycle c.args.place _ c.args.tallies.now None c.in-Some.known next c.requires.well_placed
    (slice_get-get_or c.args.placed.now c.args.place nowhere c.if-place-placed.false) c.if-p-slot.false c.in-Some.is is)
