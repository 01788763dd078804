use Rattle.std.proofs.Common.{◌≡◌, ◌≤◌, ℕ, Bool, true, nat_lt, arith}
use Rattle.std.proofs.lemmas.Bool.{and_parts, eqb-true, ltb-true, or_cases}
use Rattle.planner_policies.specs.Plan.{by_number}
use Rattle.release_wheel.proofs.wheel.least_last.Goals as goal

not-above : (one other : ℕ) (rest : Bool) → by_number one other rest ≡ true → one ≤ other
not-above one other rest first = grind (arith, nat_lt, ltb-true, eqb-true, and_parts, or_cases)

pub returns : goal.returns
returns c = record { least = λ row in'. not-above _ _ _ (c.soonest_row.ensures.first.first row in') }
