-- An accepted change keeps every deadline.
use Rattle.std.proofs.Common.{◌≡◌, ℕ, ◌+◌, ◌-◌, ◌<◌, ◌≤◌, false, List, ap, ◌∙◌, subst, ⊎_elim, zero-add, arith}
use Rattle.std.proofs.lemmas.Bool.{cases_lt}
use Rattle.requirement_table.specs.declared.entries.Placed.{Placed}
use Rattle.bit_sets.specs.Sets.{most_slots}
use Rattle.change_protocol.specs.Applied.{IsChangedAt}
use Rattle.planner_policies.specs.Plan.{NeverMisses, is_missed_at, pending_at}
use Rattle.planner_policies.proofs.Shared.{on-missed}
use Rattle.admission_rules.specs.declared.Rules.{Rules}
use Rattle.admission.specs.Verdict.{plan_from}
use Rattle.master_core.specs.History.{plan_of}
use Rattle.master_core.proofs.Unfelt.{missed-unfelt, pending_set-unfelt}

-- the plan of the new list: up to the cycle that was planned from it is that of the old one, and from there on the one
-- that was planned
module _ (rules : Rules) (old new : List Placed) (start from : ℕ) (changed : IsChangedAt start old new) (ahead : from ≤ start)
    (was : NeverMisses (plan_of rules old)) (goes_on : NeverMisses (plan_from rules new from (pending_at (plan_of rules old) from))) where
  before : (m slot : ℕ) → m < from → slot < most_slots → is_missed_at (plan_of rules new) m slot ≡ false
  before m slot early known = missed-unfelt (plan_of rules old) new start changed m slot (omega arith) known ∙ was m slot known

  behind : (k slot : ℕ) → slot < most_slots → is_missed_at (plan_of rules new) (from + k) slot ≡ false
  behind k slot known =
      on-missed (plan_of rules new) from k slot known
      ∙ ap (λ (n : ℕ). is_missed_at (plan_from rules new n (pending_at (plan_of rules new) from)) k slot) (zero-add from)
      ∙ ap (λ (set : ℕ). is_missed_at (plan_from rules new from set) k slot) (pending_set-unfelt (plan_of rules old) new start changed from (omega arith))
      ∙ goes_on k slot known

  pub never-missed-then : NeverMisses (plan_of rules new)
  never-missed-then m slot known =
      ⊎_elim
      (λ (early : m < from). before m slot early known)
      (λ (late : from ≤ m).
      let at : from + (m - from) ≡ m = omega arith in
      subst (λ (n : ℕ). is_missed_at (plan_of rules new) n slot ≡ false) at (behind (m - from) slot known))
      (cases_lt m from)
