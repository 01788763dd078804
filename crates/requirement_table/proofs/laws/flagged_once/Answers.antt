use Rattle.requirement_table.proofs.FlaggedOnce.{flagged_once-holds}
use Rattle.requirement_table.proofs.laws.flagged_once.Goals as goal

pub returns : goal.returns
returns c = record { once = flagged_once-holds }
