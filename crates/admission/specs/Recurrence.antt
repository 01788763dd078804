-- When a plan repeats. Cycles are elementary cycles, counted from 0.
use Rattle.std.specs.Prelude.{◌≡◌, ℕ, ◌+◌, ◌%◌, ◌<◌, ◌≤◌, List, All, None, fold, map, max}
use Rattle.requirement_table.specs.declared.entries.Placed.{Placed}
use Rattle.requirement_table.specs.Instance.{IsReleasedIn}
use Rattle.planner_policies.specs.Loop.{settled_at}
use Rattle.planner_policies.specs.Plan.{Planning, pending_at}

-- the first cycle from `from` on by which each of them has settled
abbrev pub bound_of : ℕ → List Placed → ℕ
bound_of from placed = fold max from (map settled_at placed)

-- a number above 0 that the period of each live entry divides
pub record IsCommonPeriod (placed : List Placed) (multiple : ℕ) : Type 0 where
  pub positive : 0 < multiple
  pub divided : All (λ p. p.end ≡ None → multiple % p.entry.period ≡ 0) placed

-- the least of them; it is 1 where no entry is live
pub record IsLeastCommonPeriod (placed : List Placed) (multiple : ℕ) : Type 0 where
  pub common : IsCommonPeriod placed multiple
  pub least : (other : ℕ) → IsCommonPeriod placed other → multiple ≤ other

-- *State*: two cycles of a planning, the `one`-th and the `other`-th from its first one, have the same plan state. All
-- entries have settled by both, they have one place in the period, and the same slots are pending before them
pub record AreAlike (plan : Planning) (period one other : ℕ) : Type 0 where
  pub one_settled : bound_of plan.from plan.placed ≤ plan.from + one
  pub other_settled : bound_of plan.from plan.placed ≤ plan.from + other
  pub place : (plan.from + one) % period ≡ (plan.from + other) % period
  pub pending : pending_at plan one ≡ pending_at plan other

-- *Recurrence*: the plan state of cycle `first` is there again `length` cycles later, and none is there again sooner
pub record IsRecurrence (plan : Planning) (first length : ℕ) : Type 0 where
  pub period : ℕ
  pub least_common : IsLeastCommonPeriod plan.placed period
  pub number : ℕ
  pub at : first ≡ plan.from + number
  pub some_cycles : 0 < length
  pub alike : AreAlike plan period number (number + length)
  pub least : (one other : ℕ) → one < other → AreAlike plan period one other → number + length ≤ other

-- no plan state is there again within the first `horizon` cycles
abbrev pub HasNoRecurrence : Planning → ℕ → Type 0
HasNoRecurrence plan horizon = (period one other : ℕ) → IsLeastCommonPeriod plan.placed period → one < other
    → AreAlike plan period one other → horizon < other

-- each live entry releases an instance in the cycle
abbrev pub AllRelease : List Placed → ℕ → Type 0
AllRelease placed c = All (λ p. p.end ≡ None → (k : ℕ) × IsReleasedIn p k c) placed
