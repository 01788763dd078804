use Rattle.std.proofs.Common.{subst}
use Rattle.master_core.specs.Cores.{CoreView, IsCoreUpcoming}
use Rattle.master_core.proofs.NextPlan.{ranked-in_time, ranked-valid, upcoming-is}
use Rattle.master_core.proofs.cores.Core.upcoming.Goals as goal

pub plan_next-mask-requires-clause-valid : goal.plan_next-mask-requires-clause-valid
plan_next-mask-requires-clause-valid c = rw c.ranked.ensures.ranking (ranked-valid _ _ _ c.self.invariant.0 c.self.invariant.1)

pub plan_next-mask-requires-clause-in_time : goal.plan_next-mask-requires-clause-in_time
plan_next-mask-requires-clause-in_time c = rw c.ranked.ensures.ranking (ranked-in_time _ _ _ c.self.invariant.0 c.self.invariant.1)

pub returns : goal.returns
returns c = record {
  upcoming =
      subst (λ (v : CoreView). IsCoreUpcoming v (record {
        mask = c.plan_next-mask.result.mask;
        l = c.plan_next-mask.result.width;
        next = c.plan_next-mask.result.next;
      })) c.self.view_is
      (upcoming-is _ _ _ c.self.invariant.0 c.self.invariant.1 _ _ _ (rw (← c.ranked.ensures.ranking) c.plan_next-mask.ensures.mask)
      (rw (← c.ranked.ensures.ranking) c.plan_next-mask.ensures.width) c.plan_next-mask.ensures.cycle
      (rw (← c.ranked.ensures.ranking) c.plan_next-mask.ensures.pending));
}
