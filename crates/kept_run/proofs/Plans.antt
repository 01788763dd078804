-- What is planned of a list that never misses a deadline, from cycle 0 on.
use Rattle.std.proofs.Common.{◌≡◌, ℕ, ◌+◌, ◌<◌, ◌≤◌, Bool, true, List, Contains, IsSome, sym, ap, ◌∙◌, subst, arith, zero-add}
use Rattle.std.proofs.lemmas.Bool.{false≢true}
use Rattle.requirement_table.specs.declared.entries.Placed.{Placed}
use Rattle.requirement_table.specs.Flags.{IsFlaggedOnce}
use Rattle.requirement_table.specs.Instance.{Exists, IsLastCycle, release_of}
use Rattle.bit_sets.specs.Sets.{has_bit, set_of, most_slots}
use Rattle.requirement_table.specs.Table.{IsWellPlaced, instance_in, width_in}
use Rattle.requirement_table.proofs.Shared.{flagged_once-holds}
use Rattle.bit_sets.proofs.Shared.{has_bit-none, sum_where-same, set_of-has, set_of-passes}
use Rattle.planner_policies.specs.Plan.{IsValid, NeverMisses, Planning, flags_of, mask_at, pending_at, planned_in}
use Rattle.planner_policies.proofs.Shared.{good-cycle, planned-fits, planned-sendable, state-planned, valid-along}
use Rattle.admission_rules.specs.declared.Rules.{Rules}
use Rattle.master_core.specs.History.{plan_of}

-- nothing is pending before cycle 0
nothing-pending : (placed : List Placed) (c : ℕ) → IsValid placed c 0
nothing-pending placed c slot held = absurd (false≢true (sym (has_bit-none slot) ∙ held))

module _ (rules : Rules) (placed : List Placed) (well : IsWellPlaced placed) (in_time : NeverMisses (plan_of rules placed)) where
  abbrev plan : Planning
  plan = plan_of rules placed

  -- a slot of the mask of a cycle is planned in it
  pub mask-planned : (c slot : ℕ) → slot < most_slots → has_bit (mask_at plan c) slot ≡ flags_of plan c slot
  mask-planned c slot known = grind (arith, set_of-has)

  -- each instance whose last cycle is below `n` is flagged once
  pub planned_once : (n : ℕ) (p : Placed) (k last : ℕ) → Contains placed p → Exists p (release_of p k) → IsLastCycle p k last → last < n
      → IsFlaggedOnce (flags_of plan) p.entry.slot (release_of p k) last
  planned_once n p k last stands exists is_last below =
      flagged_once-holds placed (flags_of plan) 0 n (has_bit 0) well (λ m before. good-cycle plan n m (λ c slot _ known. in_time c slot known) before)
      p k last stands exists (omega arith) is_last (omega arith)

  -- each slot of the mask has an instance that may be sent
  pub mask-sendable : (c slot : ℕ) → has_bit (mask_at plan c) slot ≡ true → IsSome (instance_in placed slot c)
  mask-sendable c slot flagged =
      let valid = valid-along plan c well (nothing-pending placed 0) (λ m s _ known. in_time m s known) in
      let planned = set_of-passes most_slots (planned_in plan (0 + c) (has_bit (pending_at plan c))) slot (ap (λ mask. has_bit mask slot) (state-planned plan c) ∙ flagged) in
      subst (λ n. IsSome (instance_in placed slot n)) (zero-add c) (planned-sendable plan (0 + c) (pending_at plan c) slot well valid planned)

  -- the frames of the mask's slots fit the window together
  pub mask-fits : (c : ℕ) → width_in placed c (has_bit (mask_at plan c)) ≤ rules.window
  mask-fits c =
      let before : ℕ → Bool = has_bit (pending_at plan c) in
      let start : 0 + c ≡ c = zero-add c in
      let mask : mask_at plan c ≡ set_of most_slots (planned_in plan c before) = sym (state-planned plan c) ∙ ap (λ n. set_of most_slots (planned_in plan n before)) start in
      let same : width_in placed c (has_bit (mask_at plan c)) ≡ width_in placed c (planned_in plan c before) = grind (arith, sum_where-same, set_of-has) in
      let fits = planned-fits plan c before in
      subst (λ w. w ≤ rules.window) (sym same) fits
