use Rattle.master_core.proofs.States.{state-upcoming}
use Rattle.master_core.proofs.master.Master.open.Goals as goal

pub open_upcoming-requires-clause-upcoming : goal.open_upcoming-requires-clause-upcoming
open_upcoming-requires-clause-upcoming c =
    rw c.plan_next-upcoming.ensures.same
    (state-upcoming _ _ _ c.known.ensures.core c.self.invariant.0 c.plan_next-upcoming.result c.plan_next-upcoming.ensures.upcoming)
