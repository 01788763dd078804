use Rattle.bounded_runs.proofs.KeptRuns.{under-way}
use Rattle.bounded_runs.proofs.laws.kept_is_under_way.Goals as goal

pub returns : goal.returns
returns c = record { under_way = λ setting history trace known whole kept. under-way setting known whole history trace kept }
