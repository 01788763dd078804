use Rattle.std.proofs.Common.{◌≡◌, ◌∙◌, ◌-◌, ap, arith, subst}
use Rattle.bit_sets.specs.Sets.{has_bit}
use Rattle.requirement_table.specs.Table.{not_over}
use Rattle.planner_policies.specs.Plan.{HasNoMiss, HasNoMissIn, Ranking, Standing, planning_of}
use Rattle.admission.specs.Verdict.{plan_from}
use Rattle.requirement_table.proofs.Shared.{not_over-well_placed}
use Rattle.master_core.proofs.CorePlans.{first-pending, leads-by, leads-none, leads-to, step-in_time, step-pending}
use Rattle.master_core.proofs.Onward.{valid-left}
use Rattle.master_core.proofs.core_plans.leads.Goals as goal

pub rank_list-requires : goal.rank_list-requires
rank_list-requires c = record {
  well_placed =
      rw c.in_ok-left.ensures.list (not_over-well_placed c.args.from.now.cycle c.args.placed.now c.requires.well_placed);
}

pub new-requires-clause-valid : goal.new-requires-clause-valid
new-requires-clause-valid c = grind (arith, valid-left)

pub loop-init : goal.loop-init
loop-init c = grind (arith, first-pending)

pub loop-preserved : goal.loop-preserved
loop-preserved c =
    let next = c.in-Ok.ensures.next in
    let step = ap (λ (s : Standing). s.cycle) next in
    let was = c.loop.invariant.cycle in
    record {
      ranking = ap (λ (s : Standing). s.ranking) next ∙ c.loop.invariant.ranking;
      cycle = omega (arith, step, was);
      in_time =
          step-in_time c.args.rules.now (not_over c.args.from.now.cycle c.args.placed.now) c.args.from.now.cycle c.args.from.now.pending c.loop.counter
          c.loop.planner.cycle c.loop.planner.pending c.loop.invariant.cycle c.loop.invariant.pending c.loop.invariant.in_time
          (subst (λ (r : Ranking). HasNoMissIn (planning_of r c.args.rules.now.window c.loop.planner.cycle c.loop.planner.pending) c.loop.planner.cycle (has_bit c.loop.planner.pending)) c.loop.invariant.ranking c.in-Ok.ensures.none_missed);
      pending = grind (arith, step-pending);
    }

-- a miss on the way
pub returns-in-Err-clause-apart : goal.returns-in-Err-clause-apart
returns-in-Err-clause-apart c off leads = grind (arith, leads-none)

pub returns-clause-leads : goal.returns-clause-leads
returns-clause-leads c same =
    let most = c.loop.auto.counter-end in
    let done = c.loop-test.false in
    let at : c.loop.counter ≡ c.args.to.now.cycle - c.args.from.now.cycle = omega (arith, most, done) in
    leads-by c.args.rules.now c.args.placed.now c.args.from.now c.args.to.now c.requires.well_placed c.requires.valid c.requires.order
    (subst (HasNoMiss (plan_from c.args.rules.now (not_over c.args.from.now.cycle c.args.placed.now) c.args.from.now.cycle c.args.from.now.pending)) at
    c.loop.invariant.in_time)
    (grind arith)

pub returns-clause-apart : goal.returns-clause-apart
returns-clause-apart c other leads =
    let most = c.loop.auto.counter-end in
    let done = c.loop-test.false in
    let at : c.loop.counter ≡ c.args.to.now.cycle - c.args.from.now.cycle = omega (arith, most, done) in
    let same =
    c.same_state.ensures.all
    (leads-to c.args.rules.now c.args.placed.now c.args.from.now c.args.to.now _ c.loop.counter c.requires.well_placed leads at
    (c.state.ensures.cycle ∙ c.loop.invariant.cycle) (c.state.ensures.pending ∙ c.loop.invariant.pending)) in
    absurd (cc)
