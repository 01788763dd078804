-- Operators that are retired one by one, the last one first.
use Rattle.std.specs.Prelude.{◌≡◌, ◌++◌, Bool, true, List, All, Contains}
use Rattle.admission_rules.specs.declared.Rules.{Rules}
use Rattle.turn_lock.specs.declared.view.View.{View}
use Rattle.master_core.specs.declared.event.Event.{Event}
use Rattle.live_run.specs.declared.crew.Operator.{Operator}

-- of all operators some are left and the others gone: their calls stand under their numbers, and the flag holds only
-- where each of them had its script answered
pub record HaveRetired (all rest gone : List Operator) (v : View Event Rules) (flag : Bool) : Type 0 where
  pub parts : rest ++ gone ≡ all
  pub ended : All (λ operator. Contains v.ended (operator.pass.view.number, operator.pass.view.mine)) gone
  pub answered : flag ≡ true → All (λ operator. operator.answered ≡ true) gone
