use Rattle.standby.proofs.Followed.{heard-in_range}
use Rattle.standby.proofs.laws.trigger_frames.Goals as goal

pub returns : goal.returns
returns c = record { heard = heard-in_range }
