use Rattle.live_node.proofs.Hearing.{first-again, second-again}
use Rattle.live_node.proofs.laws.again_changes_nothing.Goals as goal

pub returns : goal.returns
returns c = record {
  first = λ view passed frame trigger opened is said is_open started near same.
      first-again view passed frame started trigger opened is said is_open near same;
  second = λ view passed frame second opened is two said is_open started near same.
      second-again view passed frame started second opened is two said is_open near same;
}
