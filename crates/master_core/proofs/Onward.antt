-- Plans that begin later, lists of which the same entries are not over, and what an accepted change makes.
use Rattle.std.proofs.Common.{◌≡◌, ℕ, ◌+◌, ◌-◌, ◌<◌, ◌≤◌, Bool, if◌then◌else◌, Option, Some, option_map, List, [], ◌∷◌, All, sym, ap, ◌∙◌, subst, arith}
use Rattle.std.proofs.lemmas.List.Elements.{All-head, All-tail}
use Rattle.std.proofs.lemmas.Option.{same_Some}
use Rattle.requirement_table.specs.declared.entries.Placed.{Placed}
use Rattle.requirement_table.specs.Instance.{Instance, release_of}
use Rattle.bit_sets.specs.Sets.{most_slots}
use Rattle.requirement_table.specs.Table.{IsWellPlaced, instance_in, not_over, releases_in}
use Rattle.requirement_table.proofs.Shared.{instance_in-not_over, releases_in-not_over}
use Rattle.bit_sets.proofs.Shared.{set_of-same}
use Rattle.change_protocol.specs.declared.operations.Change.{Change}
use Rattle.change_protocol.specs.Applied.{IsChangedAt, applied, without_end}
use Rattle.change_protocol.specs.Malformed.{IsWellFormed}
use Rattle.change_protocol.specs.Operations.{HasTypes}
use Rattle.change_protocol.specs.Pruned.{may_go, pruned}
use Rattle.change_protocol.proofs.Shared.{kept-instance, well_placed-applied}
use Rattle.planner_policies.specs.Plan.{IsValid, Planning, is_missed_at, mask_at, pending_at, pending_before, planned_at}
use Rattle.planner_policies.proofs.Shared.{on-pending, same-missed, same-pending, same-planned}
use Rattle.admission_rules.specs.declared.Rules.{Rules}
use Rattle.profile.specs.Limits.{openings_end}
use Rattle.admission.specs.Safe.{HasRepeat, IsSafeWithin}
use Rattle.admission.specs.Verdict.{IsRules, IsVerdictOnPlan, bounds_by, plan_from}
use Rattle.admission.specs.declared.verdict.Verdict.TheVariants.{Accepted}
use Rattle.master_core.proofs.KnownSlots.{both-none}
use Rattle.master_core.proofs.Recurring.{recurring}
use Rattle.master_core.proofs.Unfelt.{pending_set-unfelt}

-- The planning that begins some cycles later

abbrev pub later_plan : Planning → ℕ → Planning
later_plan plan n = record plan { from = plan.from + n; pending = pending_at plan n }

pub later-pending : (plan : Planning) (n m : ℕ) → pending_at plan (n + m) ≡ pending_at (later_plan plan n) m
later-pending plan n m = grind (arith, set_of-same, on-pending)

-- Lists of which the same entries are not over by the first cycle

module _ (rules : Rules) (from pending : ℕ) (one other : List Placed) (first : IsWellPlaced one) (second : IsWellPlaced other)
    (left : not_over from other ≡ not_over from one) where
  pub left-instances : (n slot : ℕ) → instance_in other slot (from + n) ≡ instance_in one slot (from + n)
  left-instances n slot =
      sym (instance_in-not_over from other slot (from + n) (omega arith))
      ∙ ap (λ (l : List Placed). instance_in l slot (from + n)) left
      ∙ instance_in-not_over from one slot (from + n) (omega arith)

  left-releases : (n slot : ℕ) → releases_in other (from + n) slot ≡ releases_in one (from + n) slot
  left-releases n slot = grind (arith, releases_in-not_over)

  pub left-pending : (n : ℕ) → pending_at (plan_from rules other from pending) n ≡ pending_at (plan_from rules one from pending) n
  left-pending n =
      set_of-same most_slots (pending_before (plan_from rules other from pending) n) (pending_before (plan_from rules one from pending) n)
      (λ slot known.
      same-pending (plan_from rules one from pending) other n (λ k s below low. left-instances k s) (λ k s below low. left-releases k s) n slot (omega arith) known)

  pub left-mask : (n : ℕ) → mask_at (plan_from rules other from pending) n ≡ mask_at (plan_from rules one from pending) n
  left-mask n =
      set_of-same most_slots (planned_at (plan_from rules other from pending) n) (planned_at (plan_from rules one from pending) n)
      (λ slot known.
      same-planned (plan_from rules one from pending) other (n + 1) (λ k s below low. left-instances k s) (λ k s below low. left-releases k s) n slot (omega arith)
      known)

  pub left-missed : (n slot : ℕ) → slot < most_slots
      → is_missed_at (plan_from rules other from pending) n slot ≡ is_missed_at (plan_from rules one from pending) n slot
  left-missed n slot known =
      same-missed (plan_from rules one from pending) other (n + 1) (λ k s below low. left-instances k s) (λ k s below low. left-releases k s) n slot (omega arith)
      known

-- a state that can be planned from can be planned from where nothing is over
pub valid-left : (cycle : ℕ) (list : List Placed) (pending : ℕ) → IsValid list cycle pending → IsValid (not_over cycle list) cycle pending
valid-left cycle list pending h0 = grind (arith, instance_in-not_over)

-- Pruned lists

module _ (P : Placed → Type 0) where
  all-if : (b : Bool) (p : Placed) (list : List Placed) → P p → All P list → All P (if b then list else p ∷ list)
  all-if b p list here all = grind arith

  pub all-pruned : (c : ℕ) (placed : List Placed) → All P placed → All P (pruned c placed)
  all-pruned c [] all = all
  all-pruned c (p ∷ placed) all = all-if (may_go c p placed) p (pruned c placed) (All-head P p placed all) (all-pruned c placed (All-tail P p placed all))

-- Changes that were accepted

some-of : (o : Option Instance) (i : Instance) → option_map without_end o ≡ Some (without_end i)
    → (j : Instance) × (o ≡ Some j) × (release_of j.placed j.number ≡ release_of i.placed i.number)
some-of o i is = grind (arith, same_Some)

-- what is pending before the start may still be sent
held-changed : (start c pending : ℕ) (old new : List Placed) → IsChangedAt start old new → c ≤ start → IsValid old c pending → IsValid new c pending
held-changed start c pending old new changed early valid slot in' =
    let held = valid slot in' in
    let found = some-of (instance_in new slot c) held.instance (kept-instance start slot c old new held.instance changed held.found (omega arith)) in
    grind arith

-- a well formed change makes a well placed list
pub well_placed-made : (rules : Rules) (placed : List Placed) (change : Change) → rules.slots ≤ most_slots → IsWellPlaced placed → All HasTypes change.ops
    → IsWellFormed placed (bounds_by rules) change → IsWellPlaced (applied placed change)
well_placed-made rules placed change room well types formed = grind (arith, both-none, well_placed-applied)

-- what is known of plans that are safe within the horizon, as laws say it
abbrev pub FoundLaw : Type 0
FoundLaw = (horizon : ℕ) (plan : Planning) (first length : ℕ) → IsVerdictOnPlan horizon plan (Accepted first length) → HasRepeat plan horizon

abbrev pub LaterLaw : Type 0
LaterLaw = (rules : Rules) (placed : List Placed) (from pending n : ℕ) → from + n ≤ openings_end → IsSafeWithin rules placed from pending
    → IsSafeWithin rules placed (from + n) (pending_at (plan_from rules placed from pending) n)

abbrev pub PrunedLaw : Type 0
PrunedLaw = (rules : Rules) (placed : List Placed) (c from pending : ℕ) → c ≤ from → IsSafeWithin rules placed from pending
    → IsSafeWithin rules (pruned c placed) from pending

abbrev pub WholeLaw : Type 0
WholeLaw = (rules : Rules) (placed list : List Placed) (from pending : ℕ) → IsWellPlaced placed → not_over from list ≡ not_over from placed
    → IsSafeWithin rules list from pending → IsSafeWithin rules placed from pending

-- the new list, where it is planned from a cycle whose plan leads to the state
module _ (found : FoundLaw) (later : LaterLaw) (rules : Rules) (old new : List Placed) (start from cycle pending set : ℕ) (changed : IsChangedAt start old new)
    (ranges : IsRules rules) (near : cycle ≤ openings_end) (well : IsWellPlaced new) (held : IsValid old from pending) (early : from ≤ cycle) (ahead : cycle ≤ start)
    (leads : set ≡ pending_at (plan_from rules old from pending) (cycle - from)) where
  new-pending : pending_at (plan_from rules new from pending) (cycle - from) ≡ set
  new-pending = pending_set-unfelt (plan_from rules old from pending) new start changed (cycle - from) (omega arith) ∙ sym leads

  pub safe-accepted : (first length : ℕ) → IsVerdictOnPlan rules.horizon (plan_from rules new from pending) (Accepted first length)
      → IsSafeWithin rules new cycle set
  safe-accepted first length is =
      let there : from + (cycle - from) ≡ cycle = omega arith in
      subst (λ (n : ℕ). IsSafeWithin rules new n set) there
      (subst (λ (q : ℕ). IsSafeWithin rules new (from + (cycle - from)) q) new-pending
      (later rules new from pending (cycle - from) (omega arith)
      (record {
        in_range = ranges;
        near = omega arith;
        safe = record {
          well_placed = well;
          held = held-changed start from pending old new changed (omega arith) held;
          in_time = recurring (plan_from rules new from pending) rules.horizon first length well is.0 is.1 is.2;
        };
        repeats = found rules.horizon (plan_from rules new from pending) first length is;
      })))
