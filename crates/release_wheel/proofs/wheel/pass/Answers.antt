use Rattle.std.proofs.Common.{◌≡◌, ℕ, true, ◌<◌, sym, subst, ◌∙◌, arith}
use Rattle.std.proofs.lemmas.Bool.{both_ways}
use Rattle.bit_sets.specs.Sets.{has_bit}
use Rattle.release_wheel.specs.declared.wheel.Wheel.{Wheel}
use Rattle.planner_policies.specs.Due.{IsPlanned}
use Rattle.planner_policies.specs.Plan.{Ranking, planning_of}
use Rattle.release_wheel.specs.Wheel.{IsWheelKept, IsWheelReady}
use Rattle.release_wheel.proofs.RowCycles.{planned-all, quiet-cost, quiet-released, quiet-slots, turned-quiet}
use Rattle.release_wheel.proofs.wheel.pass.Goals as goal

turns-on : (ranking : Ranking) (w : Wheel) → IsWheelKept ranking w → w.cycle < w.quiet → w.turns ≡ true
turns-on ranking w kept less = grind arith

pub returns-clause-planned : goal.returns-clause-planned
returns-clause-planned c = λ window.
    let w = c.args.wheel.now in
    let ranking = c.args.ranked.now in
    let kept = c.requires.kept in
    let less = c.requires.quiet in
    let on = turns-on ranking w kept less in
    let turned = (kept.turned on).turned in
    let ready : IsWheelReady ranking w.dues.waiting.slots w = record { released = quiet-released w turned less; of_ranking = (kept.turned on).of_ranking; well = c.requires.well; valid = kept.valid } in
    let cost = quiet-cost w turned less in
    let number = c.empty.ensures.number in
    let P : ℕ → Type 0 = λ width. IsPlanned (planning_of ranking window w.cycle w.dues.waiting.slots) w.cycle (has_bit w.dues.waiting.slots) c.empty.result width c.empty-wheel.result in
    subst P cost
    (planned-all ranking w.dues.waiting.slots window w ready c.empty.result (omega arith) (λ slot. c.empty.ensures.slots slot ∙ sym (quiet-slots w slot turned less)) (omega arith)
    c.empty-wheel.result c.empty-wheel.ensures.number)

pub returns-clause-kept : goal.returns-clause-kept
returns-clause-kept c = grind (arith, both_ways, turned-quiet)
