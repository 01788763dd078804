use Rattle.std.proofs.Common.{◌≡◌, ◌≤◌, List, ap, subst, ◌∙◌, refl}
use Rattle.requirement_table.specs.declared.entries.Placed.{Placed}
use Rattle.planner_policies.specs.Plan.{Ranking, Standing}
use Rattle.requirement_table.specs.Table.{not_over}
use Rattle.release_wheel.specs.Demand.{demand_in}
use Rattle.admission.proofs.Decided.{walked-goes_on, walked-held, walked-positive}
use Rattle.admission.proofs.Left.{bound-left, period-left}
use Rattle.admission.proofs.deciding.walk_over.Goals as goal
use Rattle.admission.proofs.deciding.walk_over.Goals.{After-placed-left}

-- the entries that are walked
left-is : (c : After-placed-left) → c.placed-left.result.now ≡ not_over c.args.state.now.cycle c.args._list.now
left-is c =
    c.placed-left.ensures.list
    ∙ ap (λ (r : Ranking). r.placed) (c.ranked.ensures.ranking ∙ ap (λ (s : Standing). s.ranking) c.requires.standing)

pub invariant_of-result : goal.invariant_of-result
invariant_of-result c =
    let rules = c.args.rules.now in
    let list = c.args._list.now in
    let state = c.args.state.now in
    let start = c.args.start.now in
    let stands = c.requires.standing in
    let walked = ap (λ (s : Standing). s.ranking) stands in
    let left = left-is (goal.at.invariant_of-result c).After-placed-left in
    let bound = bound-left state.cycle list c.placed-left.result.now c.bound-bound.result left c.bound-bound.ensures.cycle in
    let period = period-left rules.horizon state.cycle list c.placed-left.result.now c.period-period.result left c.period-period.ensures.period in
    record {
      cycle = ap (λ (s : Standing). s.cycle) stands;
      pending = ap (λ (s : Standing). s.pending) stands;
      near = c.requires.next;
      held = walked-held rules list start.ranking state.cycle state.pending walked c.requires.well_placed c.requires.valid;
      positive = walked-positive rules list start.ranking state.cycle state.pending walked c.requires.well_placed c.period-period.result period;
      goes_on = walked-goes_on rules list start.ranking state.cycle state.pending walked c.requires.well_placed rules.window c.bound-bound.result
          c.period-period.result bound period;
      fits = λ at from to. subst (λ (ps : List Placed). demand_in ps at ≤ rules.window)
          (c.placed-left.ensures.list ∙ ap (λ (r : Ranking). r.placed) c.ranked.ensures.ranking) (c.fits_until.ensures.fits at from to);
      fits_end = c.fits_until.ensures.near;
    }

pub returns-clause-walked : goal.returns-clause-walked
returns-clause-walked c =
    let rules = c.args.rules.now in
    let list = c.args._list.now in
    let from = c.args.state.now.cycle in
    let left = left-is (goal.at.returns-clause-walked c).After-placed-left in
    record {
      well = c.requires.well_placed;
      valid = c.requires.valid;
      known = c.known.ensures.below;
      walked_is = ap (λ (s : Standing). s.ranking) c.requires.standing;
      window_is = refl;
      first_is = refl;
      bound_is = bound-left from list c.placed-left.result.now c.bound-bound.result left c.bound-bound.ensures.cycle;
      period_is = period-left rules.horizon from list c.placed-left.result.now c.period-period.result left c.period-period.ensures.period;
    }
