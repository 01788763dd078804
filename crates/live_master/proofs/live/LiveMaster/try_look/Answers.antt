use Rattle.std.proofs.Common.{rules}
use Rattle.live_master.proofs.Standing.{pass_of}
use Rattle.live_master.proofs.live.LiveMaster.try_look.Goals as goal

pub look_once-requires-clause-standing : goal.look_once-requires-clause-standing
look_once-requires-clause-standing c = pass_of _ _ c.pass.invariant.0 (search rules)
