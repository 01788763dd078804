use Rattle.change_protocol.proofs.WellFormed.{well_formed-both}
use Rattle.change_protocol.proofs.laws.well_formed_changes.Goals as goal

pub returns : goal.returns
returns c = record { formed = well_formed-both }
