use Rattle.std.proofs.Common.{ℕ, ◌<◌, ◌≤◌, subst, arith}
use Rattle.planner_policies.specs.Plan.{Standing, planning_of}
use Rattle.release_wheel.specs.Passed.{LeavesSame}
use Rattle.release_wheel.proofs.ahead.Ahead.pass_fitting.Goals as goal

pub returns-clause-passed : goal.returns-clause-passed
returns-clause-passed c =
    let made = c.pass_fitting.ensures in
    subst
    (λ (s : Standing). (at : ℕ) → s.cycle ≤ at → at < c.pass_fitting.new.wheel.cycle → LeavesSame (planning_of s.ranking c.args.w at s.pending))
    c.self-2.view_is
    (λ at from to. made.passed at from (let is = made.cycle in omega arith))
