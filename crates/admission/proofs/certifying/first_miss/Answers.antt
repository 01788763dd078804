use Rattle.std.proofs.Common.{◌∙◌, ap}
use Rattle.planner_policies.specs.declared.state.PlanState.{PlanState}
use Rattle.admission.specs.Course.{state_in}
use Rattle.admission.proofs.Planned.{miss-at, missed-there, none-there}
use Rattle.admission.proofs.certifying.first_miss.Goals as goal

pub miss-requires-clause-missed : goal.miss-requires-clause-missed
miss-requires-clause-missed c none =
    let walk = c.args.walk.now in
    let planned = c.in_ok-planner.ensures.planned in
    c.requires.missed
    (none-there walk.start.now.ranking walk.window walk.first.cycle walk.first.pending c.args.at c.in_ok-planner.planner planned.state
    c.in_ok-planner.ensures.entries none c.requires.none_before)

pub returns : goal.returns
returns c =
    let walk = c.args.walk.now in
    let here = c.in_ok-planner.planner in
    let planned = c.in_ok-planner.ensures.planned in
    record {
      miss = record {
        cycle = c.miss.ensures.cycle ∙ ap (λ (s : PlanState). s.cycle) planned.state;
        none_before = c.requires.none_before;
        at = miss-at walk.start.now.ranking walk.window walk.first.cycle walk.first.pending c.args.at c.miss.result.slot c.miss.result.release (state_in here)
            planned.state
            (missed-there walk.start.now.ranking walk.window walk.first.cycle walk.first.pending c.miss.result.slot c.miss.result.release here
            c.in_ok-planner.ensures.entries c.miss.ensures.miss);
      };
    }
