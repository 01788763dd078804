use Rattle.change_protocol.proofs.Kept.{kept-at, new-at}
use Rattle.change_protocol.proofs.laws.entries_after_a_change.Goals as goal

pub returns-clause-kept : goal.returns-clause-kept
returns-clause-kept c start place old new p changed at = kept-at start place old new p changed at

pub returns-clause-new : goal.returns-clause-new
returns-clause-new c start place old new q changed behind at = new-at start place old new q changed behind at
