use Rattle.std.proofs.Common.{rules}
use Rattle.live_master.proofs.Standing.{pass_of}
use Rattle.live_master.proofs.live.LiveMaster.try_open_within.Goals as goal

pub open_within_once-requires-clause-standing : goal.open_within_once-requires-clause-standing
open_within_once-requires-clause-standing c = pass_of _ _ c.pass.invariant.0 (search rules)
