use Rattle.master_core.proofs.Anew.{accepted-anew}
use Rattle.master_core.proofs.laws.accepted_anew.Goals as goal

pub returns : goal.returns
returns c = record { accepted = accepted-anew c.loops.ensures.pending }
