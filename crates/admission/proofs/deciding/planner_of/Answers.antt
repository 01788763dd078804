use Rattle.std.proofs.Common.{◌≡◌, IfOk, sym, subst}
use Rattle.planner_policies.specs.Plan.{IsValid, Ranking}
use Rattle.admission.proofs.Decided.{ranked-is, reduced-well_placed}
use Rattle.admission.proofs.Reduced.{held-reduced}
use Rattle.admission.proofs.deciding.planner_of.Goals as goal

pub rank_list-requires : goal.rank_list-requires
rank_list-requires c = record {
  well_placed = reduced-well_placed c.args.list.now c.in_ok-left.left.items c.args.state.now.cycle c.in_ok-left.ensures.list
      c.requires.well_placed;
}

pub new-requires-clause-valid : goal.new-requires-clause-valid
new-requires-clause-valid c =
    let rules = c.args.rules.now in
    let state = c.args.state.now in
    let is = ranked-is rules c.args.list.now c.in_ok-left.left.items state.cycle c.in_ok-ranked.ranked c.in_ok-left.ensures.list c.in_ok-ranked.ensures.ranked in
    subst (λ (r : Ranking). IsValid r.placed state.cycle state.pending) (sym is) (held-reduced c.args.list.now state.cycle state.pending c.requires.valid)

pub returns : goal.returns
returns c =
    let rules = c.args.rules.now in
    let state = c.args.state.now in
    let is = ranked-is rules c.args.list.now c.in_ok-left.left.items state.cycle c.in_ok-ranked.ranked c.in_ok-left.ensures.list c.in_ok-ranked.ensures.ranked in
    record {
      standing = subst
          (λ (r : Ranking). IfOk c.new.result (λ planner. planner ≡ record { ranking = r; cycle = state.cycle; pending = state.pending })) is
          c.new.ensures.standing;
    }
