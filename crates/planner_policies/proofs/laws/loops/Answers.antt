use Rattle.planner_policies.proofs.Loops.{loop-pending, loop-planned, never-missed}
use Rattle.planner_policies.proofs.laws.loops.Goals as goal

pub returns : goal.returns
returns c = record {
  pending = λ plan n m k slot well further repeats same known. loop-pending plan n m well further repeats same k slot known;
  planned = λ plan n m k slot well further repeats same known. loop-planned plan n m well further repeats same k slot known;
  never_missed = never-missed;
}
