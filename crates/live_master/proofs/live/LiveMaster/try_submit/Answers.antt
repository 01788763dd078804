use Rattle.live_master.proofs.Calling.{planned_here, submitted_once}
use Rattle.live_master.proofs.live.LiveMaster.try_submit.Goals as goal

pub try_settle-requires-clause-planned : goal.try_settle-requires-clause-planned
try_settle-requires-clause-planned c = planned_here _ _ _ _ _ _ c.in_ok-snapshot.ensures.taken c.in-Ok.ensures.planned

pub returns-in-Ok-try_settle-clause-submitted : goal.returns-in-Ok-try_settle-clause-submitted
returns-in-Ok-try_settle-clause-submitted c =
    submitted_once _ _ _ _ _ _ _ _ c.in_ok-snapshot.ensures.taken c.in-Ok.ensures.planned c.in-Ok-try_settle.ensures.settled
