use Rattle.turn_lock.proofs.Passed.{covered_whole}
use Rattle.turn_lock.proofs.laws.pass_laws.Goals as goal

pub returns : goal.returns
returns g c = record { covered = λ v facts first out. covered_whole g.T.Stands.number v facts first out }
