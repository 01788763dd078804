use Rattle.std.proofs.Common.{◌+◌, ◌<◌, ◌++◌, ◌∷◌, [], List, ℕ, ap, sym, subst, ◌∙◌, arith}
use Rattle.planner_policies.specs.Plan.{planning_of}
use Rattle.admission.specs.Verdict.{IsPlannedUpTo}
use Rattle.admission.proofs.Planned.{planned-empty, planned-here, state-parts}
use Rattle.admission.proofs.deciding.plan_empty.Goals as goal

pub loop-init : goal.loop-init
loop-init c = grind (arith, planned-here)

pub loop-preserved : goal.loop-preserved
loop-preserved c =
    let walk = c.args.walk.now in
    let here = c.args.planner.now in
    let n = c.loop.counter in
    let below : here.cycle + n < c.pass_until.new.planner.cycle = omega (arith, c.loop-test.true, c.state.ensures.cycle, c.state-here.ensures.cycle) in
    record {
      planned = subst
          (λ (items : List ℕ). IsPlannedUpTo (planning_of walk.start.now.ranking walk.window walk.first.cycle walk.first.pending) (c.args.count + (n + 1)) items
          (record { cycle = here.cycle + (n + 1); pending = here.pending }))
          (sym (c.in_ok-push.ensures.items ∙ ap (λ (m : ℕ). c.loop.masks.items ++ m ∷ []) c.empty.ensures.number))
          (planned-empty walk.start.now.ranking walk.window walk.first.cycle walk.first.pending c.args.count c.loop.masks.items here n c.requires.entries
          c.loop.invariant.planned (c.pass_until.ensures.passed walk.window (here.cycle + n) (omega arith) below)
          (c.pass_until.ensures.valid (here.cycle + n + 1) (omega arith) (omega (arith, below))));
    }

pub returns-clause-planned : goal.returns-clause-planned
returns-clause-planned c = grind (arith, state-parts)
