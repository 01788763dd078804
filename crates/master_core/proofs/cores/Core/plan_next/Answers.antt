use Rattle.std.proofs.Common.{subst}
use Rattle.master_core.specs.Cores.{CoreView, IsCoreUpcoming}
use Rattle.master_core.proofs.NextPlan.{ranked-in_time, ranked-valid, upcoming-is}
use Rattle.master_core.proofs.cores.Core.plan_next.Goals as goal

pub plan_next-planned-requires-clause-valid : goal.plan_next-planned-requires-clause-valid
plan_next-planned-requires-clause-valid c = ranked-valid _ _ _ c.self.invariant.0 c.self.invariant.1

pub plan_next-planned-requires-clause-in_time : goal.plan_next-planned-requires-clause-in_time
plan_next-planned-requires-clause-in_time c = ranked-in_time _ _ _ c.self.invariant.0 c.self.invariant.1

pub returns-clause-upcoming : goal.returns-clause-upcoming
returns-clause-upcoming c =
    subst (λ (v : CoreView). IsCoreUpcoming v (record {
      mask = c.plan_next-planned.result.mask;
      l = c.plan_next-planned.result.width;
      next = c.plan_next-planned.result.next;
    })) c.self.view_is
    (upcoming-is _ _ _ c.self.invariant.0 c.self.invariant.1 _ _ _ c.plan_next-planned.ensures.mask c.plan_next-planned.ensures.width
    c.plan_next-planned.ensures.cycle c.plan_next-planned.ensures.pending)
