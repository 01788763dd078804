-- A plan does not feel a change before its start.
use Rattle.std.proofs.Common.{◌≡◌, ℕ, zero, suc, ◌+◌, ◌<◌, ◌≤◌, nat_le, List, Option, option_map, refl, sym, ap, ◌∙◌, arith}
use Rattle.std.specs.Option.{option_map_or}
use Rattle.requirement_table.specs.declared.entries.Placed.{Placed}
use Rattle.requirement_table.specs.Instance.{Instance}
use Rattle.bit_sets.specs.Sets.{most_slots}
use Rattle.requirement_table.specs.Table.{instance_in}
use Rattle.bit_sets.proofs.Shared.{set_of-same}
use Rattle.change_protocol.specs.Applied.{IsChangedAt, without_end}
use Rattle.change_protocol.proofs.Shared.{same-instances, same-last, same-releases, same-worst}
use Rattle.planner_policies.specs.declared.Policy.{Policy}
use Rattle.planner_policies.specs.Plan.{Planning, by_number, is_missed_at, key_in, key_of, mask_at, pending_at, pending_before, planned_at, priority_in}
use Rattle.planner_policies.proofs.Shared.{AreAlike, before-first, before-next, left-alike, missed-alike, planned-alike}

key-endless : (policy : Policy) (o : Option Instance) → option_map_or (key_of policy) (option_map without_end o) 0 ≡ option_map_or (key_of policy) o 0
key-endless policy o = grind arith

priority-endless : (o : Option Instance) → option_map_or (λ i. i.placed.entry.priority) (option_map without_end o) 0 ≡ option_map_or (λ i. i.placed.entry.priority) o 0
priority-endless o = grind arith

by-same : (a b p q a' b' p' q' one other : ℕ) → a' ≡ a → b' ≡ b → p' ≡ p → q' ≡ q
    → by_number a' b' (by_number p' q' (nat_le one other)) ≡ by_number a b (by_number p q (nat_le one other))
by-same a b p q a' b' p' q' one other same_a same_b same_p same_q = rw (same_a, same_b, same_p, same_q) refl

module _ (policy : Policy) (start c : ℕ) (old new : List Placed) (changed : IsChangedAt start old new) (early : c < start) where
  key-unfelt : (slot : ℕ) → key_in policy new c slot ≡ key_in policy old c slot
  key-unfelt slot =
      sym (key-endless policy (instance_in new slot c))
      ∙ ap (λ (o : Option Instance). option_map_or (key_of policy) o 0) (same-instances start slot c old new changed early)
      ∙ key-endless policy (instance_in old slot c)

  priority-unfelt : (slot : ℕ) → priority_in new c slot ≡ priority_in old c slot
  priority-unfelt slot =
      sym (priority-endless (instance_in new slot c))
      ∙ ap (λ (o : Option Instance). option_map_or (λ i. i.placed.entry.priority) o 0) (same-instances start slot c old new changed early)
      ∙ priority-endless (instance_in old slot c)

  pub alike-unfelt : AreAlike policy old new c c
  alike-unfelt = grind (arith, same-releases, by-same, key-unfelt, priority-unfelt, same-worst, same-instances, same-last)

module _ (plan : Planning) (new : List Placed) (start : ℕ) (changed : IsChangedAt start plan.placed new) where
  pub pending-unfelt : (m slot : ℕ) → plan.from + m ≤ start → slot < most_slots → pending_before (record plan { placed = new }) m slot ≡ pending_before plan m slot
  pending-unfelt zero slot within known = before-first (record plan { placed = new }) slot ∙ sym (before-first plan slot)
  pending-unfelt (suc m) slot within known =
      before-next (record plan { placed = new }) m slot
      ∙ left-alike plan new plan.from plan.pending (plan.from + m) (plan.from + m) (pending_before plan m) (pending_before (record plan { placed = new }) m)
      (alike-unfelt plan.policy start (plan.from + m) plan.placed new changed (omega arith)) (λ other below. pending-unfelt m other (omega arith) below) slot known
      ∙ sym (before-next plan m slot)

  pub planned-unfelt : (m slot : ℕ) → plan.from + m < start → slot < most_slots → planned_at (record plan { placed = new }) m slot ≡ planned_at plan m slot
  planned-unfelt m slot within known =
      planned-alike plan new plan.from plan.pending (plan.from + m) (plan.from + m) (pending_before plan m) (pending_before (record plan { placed = new }) m)
      (alike-unfelt plan.policy start (plan.from + m) plan.placed new changed within) (λ other below. pending-unfelt m other (omega arith) below) slot known

  pub missed-unfelt : (m slot : ℕ) → plan.from + m < start → slot < most_slots → is_missed_at (record plan { placed = new }) m slot ≡ is_missed_at plan m slot
  missed-unfelt m slot within known =
      missed-alike plan new plan.from plan.pending (plan.from + m) (plan.from + m) (pending_before plan m) (pending_before (record plan { placed = new }) m)
      (alike-unfelt plan.policy start (plan.from + m) plan.placed new changed within) (λ other below. pending-unfelt m other (omega arith) below) slot known

  pub mask-unfelt : (m : ℕ) → plan.from + m < start → mask_at (record plan { placed = new }) m ≡ mask_at plan m
  mask-unfelt m within = grind (arith, set_of-same, planned-unfelt)

  pub pending_set-unfelt : (m : ℕ) → plan.from + m ≤ start → pending_at (record plan { placed = new }) m ≡ pending_at plan m
  pending_set-unfelt m within = grind (arith, set_of-same, pending-unfelt)
