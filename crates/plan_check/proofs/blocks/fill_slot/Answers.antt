use Rattle.std.proofs.Common.{◌||◌, Some, ap, refl, sym, ◌∙◌, get_or}
use Rattle.std.proofs.lemmas.Bool.{eq-eqb}
use Rattle.std.proofs.lemmas.Option.{slice_get-get_or}
use Rattle.bit_sets.specs.Sets.{has_bit}
use Rattle.plan_check.proofs.Filled.{filled-none, filled-some}
use Rattle.plan_check.proofs.blocks.fill_slot.Goals as goal

pub returns-in-Some-clause-filled : goal.returns-in-Some-clause-filled
returns-in-Some-clause-filled c =
    let costs = c.set.new.self in
    filled-some c.args.placed.now c.args.from c.args.count c.args.slot c.args.place c.with-one.result c.in-Some.p.now c.args.block.now
    (record { released = c.mark_releases.new.sets; ends = c.mark_ends.new.sets; costs = costs })
    c.requires.well_placed c.requires.current
    (slice_get-get_or c.args.placed.now c.args.place c.in-Some.p.now c.in-Some.ensures.lookup.3.0 ∙ ap (λ p. Some p) (sym c.in-Some.ensures.lookup.1)) c.requires.clear
    (c.with-one.ensures.slots c.args.slot ∙ ap (λ b. b || has_bit c.empty.result c.args.slot) (eq-eqb c.args.slot c.args.slot refl))
    c.mark_releases.ensures.marked c.mark_ends.ensures.marked
    (ap (λ k. get_or costs k 0) (sym c.from.ensures) ∙ c.set.ensures.same ∙ c.cost.ensures.worst)

pub returns-in_default-clause-filled : goal.returns-in_default-clause-filled
returns-in_default-clause-filled c =
    filled-none c.args.placed.now c.args.from c.args.count c.args.slot c.args.place c.args.block.now c.requires.well_placed c.requires.current
    c.in_default.ensures.lookup.3 c.requires.clear
