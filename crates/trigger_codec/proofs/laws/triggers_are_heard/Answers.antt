use Rattle.trigger_codec.proofs.HeardTriggers.{heard-triggers}
use Rattle.trigger_codec.proofs.laws.triggers_are_heard.Goals as goal

pub returns : goal.returns
returns c = record { heard = heard-triggers }
