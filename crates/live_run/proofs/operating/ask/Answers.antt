use Rattle.live_run.proofs.Asking.{planned-here}
use Rattle.live_run.proofs.operating.ask.Goals as goal

pub settle_kept-requires-clause-planned : goal.settle_kept-requires-clause-planned
settle_kept-requires-clause-planned g c = planned-here _ _ _ _ _ _ c.in_ok-snapshot.ensures.taken c.in-Ok.ensures.planned
