-- Cycles in which tables are alike have the same plan.
use Rattle.std.proofs.Common.{◌≡◌, ℕ, ◌+◌, ◌<◌, ◌&&◌, ◌||◌, not, Bool, nat_eq, nat_le, false, List, refl, ap, ◌∙◌}
use Rattle.std.specs.Option.{option_map_or}
use Rattle.requirement_table.specs.declared.entries.Placed.{Placed}
use Rattle.requirement_table.specs.Instance.{deadline_of, worst_of}
use Rattle.bit_sets.specs.Sets.{most_slots}
use Rattle.requirement_table.specs.Table.{instance_in, is_last_in, releases_in}
use Rattle.planner_policies.specs.declared.Policy.{Policy}
use Rattle.planner_policies.specs.Plan.{Planning, by_number, is_missed_in, key_of, left_after, pending_in, planned_in}
use Rattle.planner_policies.proofs.Filling.{Agree, AreAlike, taken-alike}

-- the same slots are pending
pub pending-alike : (policy : Policy) (placed placed' : List Placed) (c c' : ℕ) (before before' : ℕ → Bool) → AreAlike policy placed placed' c c'
    → Agree before' before → (slot : ℕ) → slot < most_slots → pending_in placed' c' before' slot ≡ pending_in placed c before slot
pending-alike policy placed placed' c c' before before' alike agree slot known =
    ap (λ b. b || releases_in placed' c' slot) (agree slot known) ∙ ap (λ b. before slot || b) (alike.released slot known)

-- another table, first cycle and set of pending slots for a planning
abbrev pub with_table : Planning → List Placed → ℕ → ℕ → Planning
with_table plan placed from pending = record plan { placed = placed; from = from; pending = pending }

module _ (plan : Planning) (placed' : List Placed) (from' pending' c c' : ℕ) (before before' : ℕ → Bool)
    (alike : AreAlike plan.policy plan.placed placed' c c') (agree : Agree before' before) where
  pub planned-alike : (slot : ℕ) → slot < most_slots → planned_in (with_table plan placed' from' pending') c' before' slot ≡ planned_in plan c before slot
  planned-alike slot known =
      taken-alike plan.policy plan.window plan.placed placed' c c' (pending_in plan.placed c before) (pending_in placed' c' before') alike
      (pending-alike plan.policy plan.placed placed' c c' before before' alike agree) plan.fill slot known

  pub left-alike : (slot : ℕ) → slot < most_slots → left_after (with_table plan placed' from' pending') c' before' slot ≡ left_after plan c before slot
  left-alike slot known =
      ap (λ b. b && not (planned_in (with_table plan placed' from' pending') c' before' slot))
      (pending-alike plan.policy plan.placed placed' c c' before before' alike agree slot known)
      ∙ ap (λ b. pending_in plan.placed c before slot && not b) (planned-alike slot known)

  pub missed-alike : (slot : ℕ) → slot < most_slots → is_missed_in (with_table plan placed' from' pending') c' before' slot ≡ is_missed_in plan c before slot
  missed-alike slot known =
      ap (λ b. b && is_last_in placed' c' slot) (left-alike slot known) ∙ ap (λ b. left_after plan c before slot && b) (alike.last slot known)

-- tables with the same instances in a cycle are alike in it
pub alike-from_same : (policy : Policy) (placed placed' : List Placed) (c c' : ℕ) → c' ≡ c
    → ((slot : ℕ) → slot < most_slots → instance_in placed' slot c ≡ instance_in placed slot c)
    → ((slot : ℕ) → slot < most_slots → releases_in placed' c slot ≡ releases_in placed c slot) → AreAlike policy placed placed' c c'
alike-from_same policy placed placed' c c' at same releases =
    rw at (record {
      released = releases;
      ordered = λ one other known_one known_other.
          let key_one = ap (λ o. option_map_or (key_of policy) o 0) (same one known_one) in
          let key_other = ap (λ o. option_map_or (key_of policy) o 0) (same other known_other) in
          let priority_one = ap (λ o. option_map_or (λ i. i.placed.entry.priority) o 0) (same one known_one) in
          let priority_other = ap (λ o. option_map_or (λ i. i.placed.entry.priority) o 0) (same other known_other) in
          by-same _ _ _ _ _ _ _ _ one other key_one key_other priority_one priority_other;
      cost = λ slot known. ap (λ o. option_map_or worst_of o 0) (same slot known);
      last = λ slot known. ap (λ o. option_map_or (λ i. nat_eq (deadline_of i.placed i.number) (c + 1)) o false) (same slot known);
    })
  where
    by-same : (a b p q a' b' p' q' one other : ℕ) → a' ≡ a → b' ≡ b → p' ≡ p → q' ≡ q
        → by_number a' b' (by_number p' q' (nat_le one other)) ≡ by_number a b (by_number p q (nat_le one other))
    by-same a b p q a' b' p' q' one other same_a same_b same_p same_q = rw (same_a, same_b, same_p, same_q) refl
