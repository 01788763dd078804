-- *Elastic choice*: which combination of a wish is chosen, and why none is. A combination is judged as a change of a
-- list, planned from the cycle `from`, which is the next one to be opened, and before which these slots are pending.
use Rattle.std.specs.Prelude.{◌≡◌, ℕ, ◌<◌, false, List, length, slice_get, Some, All, ⊤, Result, Ok, Err}
use Rattle.requirement_table.specs.declared.entries.Placed.{Placed}
use Rattle.admission_rules.specs.declared.Rules.{Rules}
use Rattle.admission.specs.Verdict.{IsVerdict, is_accepted}
use Rattle.admission.specs.declared.verdict.Verdict.{Verdict}
use Rattle.admission.specs.declared.verdict.Verdict.TheVariants.{Accepted}
use Rattle.elastic.specs.Combination.{AreChoosable, AreTooMany, HasChoice, IsFirstWithoutPeriod, change_of, combinations, operations_in, periods_of}
use Rattle.elastic.specs.declared.choice.Choice.{Choice}
use Rattle.elastic.specs.declared.choice.ElasticFault.{ElasticFault}
use Rattle.elastic.specs.declared.choice.ElasticFault.TheVariants.{NoPeriod, TooMany, NoneFits, Memory}
use Rattle.elastic.specs.declared.wish.Wish.{Wish}

-- the verdict on the combination with this number
abbrev pub IsVerdictOn : Rules → List Placed → ℕ → ℕ → Wish → ℕ → Verdict → Type 0
IsVerdictOn rules placed pending from wish number verdict =
    IsVerdict rules placed pending from from (change_of wish number) verdict

-- these are the verdicts on the combinations below this number, in their order, and none of them is Accepted
pub record AreRefused (rules : Rules) (placed : List Placed) (pending from : ℕ) (wish : Wish) (number : ℕ)
    (verdicts : List Verdict) : Type 0 where
  pub as_many : length verdicts ≡ number
  pub each : (place : ℕ) (verdict : Verdict) → slice_get verdicts place ≡ Some verdict
      → IsVerdictOn rules placed pending from wish place verdict
  pub none : All (λ verdict. is_accepted verdict ≡ false) verdicts

-- all combinations below this number are refused, with some verdicts
pub record IsRefusedBelow (rules : Rules) (placed : List Placed) (pending from : ℕ) (wish : Wish) (number : ℕ)
    : Type 0 where
  pub verdicts : List Verdict
  pub are : AreRefused rules placed pending from wish number verdicts

-- the combination is the least that is Accepted: it is, with this recurrence, and none below it
pub record IsChoice (rules : Rules) (placed : List Placed) (pending from : ℕ) (wish : Wish) (choice : Choice)
    : Type 0 where
  pub choosable : AreChoosable wish.ops
  pub below : choice.number < combinations wish.ops
  pub accepted : IsVerdictOn rules placed pending from wish choice.number (Accepted choice.first choice.length)
  pub least : IsRefusedBelow rules placed pending from wish choice.number
  pub periods : choice.periods ≡ periods_of (operations_in choice.number wish.ops)

-- why no combination is chosen; want of memory says nothing of the wish
abbrev pub IsElasticFault : Rules → List Placed → ℕ → ℕ → Wish → ElasticFault → Type 0
IsElasticFault rules placed pending from wish (NoPeriod op) = IsFirstWithoutPeriod wish.ops op
IsElasticFault rules placed pending from wish (TooMany count) = All HasChoice wish.ops × AreTooMany wish.ops count
IsElasticFault rules placed pending from wish (NoneFits verdicts) =
    AreChoosable wish.ops × AreRefused rules placed pending from wish (combinations wish.ops) verdicts
IsElasticFault rules placed pending from wish Memory = ⊤

-- the same of the wish alone: why nothing is tried
abbrev pub IsUnchoosable : Wish → ElasticFault → Type 0
IsUnchoosable wish (NoPeriod op) = IsFirstWithoutPeriod wish.ops op
IsUnchoosable wish (TooMany count) = All HasChoice wish.ops × AreTooMany wish.ops count
IsUnchoosable wish (NoneFits verdicts) = ⊥
IsUnchoosable wish Memory = ⊥

-- how all combinations were tried: up to the first that is Accepted, with these numbers of its recurrence, or all of
-- them, with these verdicts
abbrev pub EndsAs : Rules → List Placed → ℕ → ℕ → Wish → Result (ℕ × ℕ × ℕ) (List Verdict) → Type 0
EndsAs rules placed pending from wish (Ok found) =
    (found.0 < combinations wish.ops)
    × IsVerdictOn rules placed pending from wish found.0 (Accepted found.1 found.2)
    × IsRefusedBelow rules placed pending from wish found.0
EndsAs rules placed pending from wish (Err verdicts) =
    AreRefused rules placed pending from wish (combinations wish.ops) verdicts
