use Rattle.async_bound.proofs.Longest.{longest-is, longest-only}
use Rattle.async_bound.proofs.laws.longest_is_reached.Goals as goal

pub returns : goal.returns
returns c = record { is = longest-is; only = longest-only }
