use Rattle.bounded_runs.proofs.Arrivals.{few-within}
use Rattle.bounded_runs.proofs.laws.few_arrive.Goals as goal

pub returns : goal.returns
returns c = record { few = few-within }
