use Rattle.std.proofs.Common.{◌≡◌, ap, refl, ◌∙◌}
use Rattle.planner_policies.specs.declared.state.PlanState.{PlanState}
use Rattle.planner_policies.specs.Plan.{Ranking}
use Rattle.admission.specs.Course.{state_in}
use Rattle.admission.proofs.Planned.{miss-decided, missed-there, none-there, planned_from, state-parts}
use Rattle.admission.proofs.deciding.missed.Goals as goal

pub miss-slot-requires-clause-missed : goal.miss-slot-requires-clause-missed
miss-slot-requires-clause-missed c none =
    let walk = c.args.walk.now in
    let planned = c.in_ok-masks.ensures.planned in
    c.requires.missed
    (none-there walk.start.now.ranking walk.window walk.first.cycle walk.first.pending c.args.at c.in_ok-masks.planner planned.state
    c.in_ok-masks.ensures.entries none c.requires.none_before)

pub returns : goal.returns
returns c =
    let walk = c.args.walk.now in
    let here = c.in_ok-masks.planner in
    let same = c.in_ok-masks.ensures.entries in
    let state_is : c.state-state.result ≡ state_in here = state-parts c.state-state.result (state_in here) c.state-state.ensures.cycle c.state-state.ensures.pending in
    let mask_is : c.cycle_mask.result ≡ planned_from walk.start.now.ranking walk.window (state_in here) =
    c.cycle_mask.ensures.planned ∙ ap (λ (r : Ranking). planned_from r walk.window c.state-state.result) (c.ranked.ensures.ranking ∙ same)
    ∙ ap (λ (s : PlanState). planned_from walk.start.now.ranking walk.window s) state_is in
    record {
      missed = miss-decided walk.start.now.ranking walk.window walk.first.cycle walk.first.pending c.args.at c.miss-slot.result.slot c.miss-slot.result.release
          c.miss-slot.result.cycle c.cycle_mask.result c.in_ok-masks.masks.items (state_in here) _ c.in_ok-masks.ensures.planned
          (missed-there walk.start.now.ranking walk.window walk.first.cycle walk.first.pending c.miss-slot.result.slot c.miss-slot.result.release here same
          c.miss-slot.ensures.miss)
          c.miss-slot.ensures.cycle mask_is refl refl
          (c.of.ensures.list ∙ c.in_ok-push.ensures.items);
      none = refl;
    }
