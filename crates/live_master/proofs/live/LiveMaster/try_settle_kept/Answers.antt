use Rattle.std.proofs.Common.{rules}
use Rattle.live_master.proofs.Standing.{pass_of}
use Rattle.live_master.proofs.live.LiveMaster.try_settle_kept.Goals as goal

pub settle_kept_once-requires-clause-standing : goal.settle_kept_once-requires-clause-standing
settle_kept_once-requires-clause-standing c = pass_of _ _ c.pass.invariant.0 (search rules)
