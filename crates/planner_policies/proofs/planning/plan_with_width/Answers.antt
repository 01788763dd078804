use Rattle.std.proofs.Common.{ℕ, ◌+◌, sym, subst}
use Rattle.planner_policies.specs.Plan.{IsValid, planning_of}
use Rattle.planner_policies.proofs.Fits.{left-valid}
use Rattle.planner_policies.proofs.planning.plan_with_width.Goals as goal

pub returns-clause-next_valid : goal.returns-clause-next_valid
returns-clause-next_valid c =
    let state = c.args.state.now in
    let placed = c.args.ranked.now.placed in
    let next = c.in_ok-planned.planned.next in
    let is = c.in_ok-planned.ensures.planned in
    let P : ℕ → Type 0 = λ at. IsValid placed at next.pending in
    let Q : ℕ → Type 0 = λ pending. IsValid placed (state.cycle + 1) pending in
    subst P (sym c.in_ok-planned.ensures.next_cycle)
    (subst Q (sym is.left)
    (left-valid (planning_of c.args.ranked.now c.args.w state.cycle state.pending) state.cycle state.pending c.placed.ensures.well_placed c.requires.valid
    is.none_missed))
