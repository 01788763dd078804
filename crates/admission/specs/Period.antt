-- The least common period of live entries, up to a horizon.
use Rattle.std.specs.Prelude.{◌≡◌, ℕ, ◌%◌, ◌<◌, ◌≤◌, List, Option, Some, None}
use Rattle.requirement_table.specs.declared.entries.Placed.{Placed}
use Rattle.admission.specs.Recurrence.{IsCommonPeriod, IsLeastCommonPeriod}

-- a number above 0 that both numbers divide
pub record IsMultipleOfBoth (one other multiple : ℕ) : Type 0 where
  pub positive : 0 < multiple
  pub of_one : multiple % one ≡ 0
  pub of_other : multiple % other ≡ 0

-- the least such number, where it is at most the limit
abbrev pub IsLeastMultiple : ℕ → ℕ → ℕ → Option ℕ → Type 0
IsLeastMultiple one other limit None = (multiple : ℕ) → IsMultipleOfBoth one other multiple → limit < multiple
IsLeastMultiple one other limit (Some least) =
    IsMultipleOfBoth one other least × (least ≤ limit)
    × ((multiple : ℕ) → IsMultipleOfBoth one other multiple → least ≤ multiple)

-- a number above 0 that `common` divides, and the period of the entry, where it is live
pub record IsMultipleWith (common : ℕ) (p : Placed) (multiple : ℕ) : Type 0 where
  pub positive : 0 < multiple
  pub of_common : multiple % common ≡ 0
  pub of_period : p.end ≡ None → multiple % p.entry.period ≡ 0

-- the least such number, where it is at most the limit
abbrev pub IsLeastMultipleWith : ℕ → Placed → ℕ → Option ℕ → Type 0
IsLeastMultipleWith common p limit None = (multiple : ℕ) → IsMultipleWith common p multiple → limit < multiple
IsLeastMultipleWith common p limit (Some least) =
    IsMultipleWith common p least × (least ≤ limit)
    × ((multiple : ℕ) → IsMultipleWith common p multiple → least ≤ multiple)

-- the least common period, where it is at most the limit
abbrev pub IsPeriodUpTo : ℕ → List Placed → Option ℕ → Type 0
IsPeriodUpTo limit placed None = (multiple : ℕ) → IsCommonPeriod placed multiple → limit < multiple
IsPeriodUpTo limit placed (Some period) = IsLeastCommonPeriod placed period × (period ≤ limit)
