use Rattle.std.proofs.Common.{rules}
use Rattle.live_master.proofs.Standing.{pass_of}
use Rattle.live_master.proofs.live.LiveMaster.try_kept_snapshot.Goals as goal

pub kept_snapshot_once-requires : goal.kept_snapshot_once-requires
kept_snapshot_once-requires c = record { standing = pass_of _ _ c.pass.invariant.0 (search rules) }
