-- The order of placed entries by a policy: words for contracts inside the crate.
use Rattle.std.specs.Prelude.{◌≡◌, ℕ, Bool, true, nat_le, List, AllPairs}
use Rattle.requirement_table.specs.declared.entries.Placed.{Placed}
use Rattle.planner_policies.specs.declared.Policy.{Policy}
use Rattle.planner_policies.specs.declared.Policy.TheVariants.{Rm, Dm, Edf}
use Rattle.planner_policies.specs.Plan.{by_number}

-- the order of the policy, where it is one of entries and not of instances: for `Edf` what breaks ties
abbrev pub own_key : Policy → Placed → ℕ
own_key Rm p = p.entry.period
own_key Dm p = p.entry.deadline
own_key Edf p = 0

abbrev pub is_ranked_by : Policy → Placed → Placed → Bool
is_ranked_by policy p q =
    by_number (own_key policy p) (own_key policy q)
    (by_number p.entry.priority q.entry.priority (nat_le p.entry.slot q.entry.slot))

abbrev pub AreRanked : Policy → List Placed → Type 0
AreRanked policy entries = AllPairs (λ p q. is_ranked_by policy p q ≡ true) entries
