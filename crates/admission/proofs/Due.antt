-- A verdict is an acceptance wherever one is due.
use Rattle.std.proofs.Common.{◌≡◌, ℕ, ◌≤◌, List, [], ◌∷◌, ◌++◌, All, refl, arith}
use Rattle.std.proofs.Math.Nat.{le_trans}
use Rattle.requirement_table.specs.declared.entries.Placed.{Placed}
use Rattle.requirement_table.specs.Table.{IsWellPlaced}
use Rattle.change_protocol.specs.declared.operations.Change.{Change}
use Rattle.change_protocol.specs.Applied.{applied}
use Rattle.change_protocol.specs.Malformed.{broken, faults}
use Rattle.change_protocol.specs.Operations.{HasTypes}
use Rattle.change_protocol.proofs.Shared.{changed-applied, well_placed-applied}
use Rattle.planner_policies.specs.Plan.{IsValid}
use Rattle.admission_rules.specs.declared.Rules.{Rules}
use Rattle.admission.specs.declared.verdict.Verdict.{Verdict}
use Rattle.admission.specs.declared.verdict.Verdict.TheVariants.{Malformed, Passed, Miss, Horizon, Accepted}
use Rattle.admission.specs.Verdict.{IsInTime, IsRules, IsTakenWhereDue, IsVerdict, bounds_by, plan_from}
use Rattle.admission.proofs.Changed.{held-changed}
use Rattle.admission.proofs.Complete.{recurs}
use Rattle.admission.proofs.Once.{no-fault}

both-none : {A : Type 0} (xs ys : List A) → xs ++ ys ≡ [] → (xs ≡ []) × (ys ≡ [])
both-none [] ys e = (refl, e)
both-none (x ∷ xs) ys e = absurd (cc)

module _ (rules : Rules) (ranges : IsRules rules) (placed : List Placed) (pending from next : ℕ) (change : Change) (well : IsWellPlaced placed)
    (types : All HasTypes change.ops) (held : IsValid placed from pending) (opened : from ≤ next) (in_time : IsInTime rules placed next change) where
  applied-well : IsWellPlaced (applied placed change)
  applied-well = grind (arith, both-none, well_placed-applied)

  applied-held : IsValid (applied placed change) from pending
  applied-held =
      held-changed change.start from pending placed (applied placed change) (changed-applied placed change well.in_range) (le_trans opened in_time.ahead) held

  pub taken-due : (verdict : Verdict) → IsVerdict rules placed pending from next change verdict
      → IsTakenWhereDue rules (plan_from rules (applied placed change) from pending) verdict
  taken-due (Malformed op why) is never c period settled releases least within =
      absurd (no-fault (faults placed (bounds_by rules) change) (broken op why) in_time.well_formed is)
  taken-due (Passed start after) is never c period settled releases least within =
      absurd (omega arith)
  taken-due (Miss slot release cycle) is never c period settled releases least within =
      grind arith
  taken-due (Horizon first walked) is never c period settled releases least within =
      absurd
      (recurs (plan_from rules (applied placed change) from pending) rules.horizon applied-well applied-held never c period settled releases least within
      is.1.1)
  taken-due (Accepted first length) is never c period settled releases least within = refl
