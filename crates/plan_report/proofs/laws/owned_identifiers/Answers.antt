use Rattle.plan_report.proofs.OwnedIds.{owned-sound, owned-ascending, owned-complete}
use Rattle.plan_report.proofs.laws.owned_identifiers.Goals as goal

pub returns : goal.returns
returns c = record { owned = owned-sound; ascending = owned-ascending; each = owned-complete }
