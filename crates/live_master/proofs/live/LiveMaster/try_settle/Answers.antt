use Rattle.std.proofs.Common.{rules}
use Rattle.live_master.proofs.Standing.{pass_of}
use Rattle.live_master.proofs.live.LiveMaster.try_settle.Goals as goal

pub settle_once-requires-clause-standing : goal.settle_once-requires-clause-standing
settle_once-requires-clause-standing c = pass_of _ _ c.pass.invariant.0 (search rules)
