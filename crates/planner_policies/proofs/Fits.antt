-- What is planned fits the window, is pending, and has something to send; states without a miss stay valid.
use Rattle.std.proofs.Common.{◌≡◌, ℕ, zero, suc, ◌+◌, ◌-◌, ◌<◌, ◌≤◌, ◌&&◌, ◌||◌, not, Bool, true, nat_lt, Option, Some, IsSome, List, refl, sym, ap, ◌∙◌, ⊎_elim, arith}
use Rattle.std.proofs.lemmas.Bool.{and_from, and_parts, both_ways, eq-eqb, or_cases}
use Rattle.requirement_table.specs.declared.entries.Placed.{Placed}
use Rattle.requirement_table.specs.Instance.{Instance}
use Rattle.bit_sets.specs.Sets.{has_bit, set_of, most_slots}
use Rattle.requirement_table.specs.Table.{IsWellPlaced, held_before, instance_in, releases_in, width_in}
use Rattle.requirement_table.specs.Flags.{IsGoodCycle}
use Rattle.requirement_table.proofs.Shared.{found-in, found-of}
use Rattle.bit_sets.proofs.Shared.{has_bit-set_of}
use Rattle.planner_policies.specs.Plan.{HasNoMiss, HasNoMissIn, IsValid, Planning, flags_of, left_after, pending_at, pending_before, pending_in, planned_at, planned_in}
use Rattle.planner_policies.proofs.Going.{before-first, state-left, state-missed}
use Rattle.planner_policies.proofs.Filling.{taken-fits, taken-pending}
use Rattle.planner_policies.proofs.Rows.{releaser-of}

-- what is planned fits the window, and is pending
pub planned-fits : (plan : Planning) (c : ℕ) (before : ℕ → Bool) → width_in plan.placed c (planned_in plan c before) ≤ plan.window
planned-fits plan c before = taken-fits plan.policy plan.fill plan.window plan.placed c (pending_in plan.placed c before)

pub planned-pending : (plan : Planning) (c : ℕ) (before : ℕ → Bool) (slot : ℕ) → planned_in plan c before slot ≡ true → pending_in plan.placed c before slot ≡ true
planned-pending plan c before slot planned = grind (arith, taken-pending)

-- what is pending has an instance
record HasInstance (placed : List Placed) (slot c : ℕ) : Type 0 where
  instance : Instance
  found : instance_in placed slot c ≡ Some instance

pending-instance : (placed : List Placed) (c pending slot : ℕ) → IsWellPlaced placed → IsValid placed c pending
    → pending_in placed c (has_bit pending) slot ≡ true → HasInstance placed slot c
pending-instance placed c pending slot well valid waiting =
    ⊎_elim
    (λ (before : has_bit pending slot ≡ true). let held = valid slot before in record { instance = held.instance; found = held.found })
    (λ (now : releases_in placed c slot ≡ true).
    let one = releaser-of placed slot c well now in
    record {
      instance = record { placed = one.entry; number = one.number };
      found = ap (λ s. instance_in placed s c) (sym one.of_slot) ∙ found-of placed one.entry one.number c well one.stands one.sends;
    })
    (or_cases (has_bit pending slot) (releases_in placed c slot) waiting)

some-is : (o : Option Instance) (i : Instance) → o ≡ Some i → IsSome o
some-is o i is = grind arith

pub planned-sendable : (plan : Planning) (c pending slot : ℕ) → IsWellPlaced plan.placed → IsValid plan.placed c pending
    → planned_in plan c (has_bit pending) slot ≡ true → IsSome (instance_in plan.placed slot c)
planned-sendable plan c pending slot well valid planned =
    let has = pending-instance plan.placed c pending slot well valid (planned-pending plan c (has_bit pending) slot planned) in
    some-is (instance_in plan.placed slot c) has.instance has.found

-- the state that a cycle without a miss leaves is valid
pub left-valid : (plan : Planning) (c pending : ℕ) → IsWellPlaced plan.placed → IsValid plan.placed c pending → HasNoMissIn plan c (has_bit pending)
    → IsValid plan.placed (c + 1) (set_of most_slots (left_after plan c (has_bit pending)))
left-valid plan c pending well valid none slot in' =
    let both = and_parts (nat_lt slot most_slots) (left_after plan c (has_bit pending) slot)
    (sym (has_bit-set_of most_slots (left_after plan c (has_bit pending)) slot) ∙ in') in
    let waiting = (and_parts (pending_in plan.placed c (has_bit pending) slot) (not (planned_in plan c (has_bit pending) slot)) both.1).0 in
    let has = pending-instance plan.placed c pending slot well valid waiting in
    let i = has.instance in
    let found = found-in plan.placed slot c i well has.found in
    grind (arith, eq-eqb, both_ways, and_from, found-of)

valid-first : (plan : Planning) (slot : ℕ) → has_bit (pending_at plan zero) slot ≡ true → has_bit plan.pending slot ≡ true
valid-first plan slot in' = grind (arith, before-first, and_parts, nat_lt, has_bit-set_of)

pub valid-along : (plan : Planning) (n : ℕ) → IsWellPlaced plan.placed → IsValid plan.placed plan.from plan.pending → HasNoMiss plan n
    → IsValid plan.placed (plan.from + n) (pending_at plan n)
valid-along plan zero well valid none = grind (arith, valid-first)
valid-along plan (suc n) well valid none =
    let before = valid-along plan n well valid (λ m slot below known. none m slot (omega arith) known) in
    let next = left-valid plan (plan.from + n) (pending_at plan n) well before
    (λ slot known. state-missed plan n slot known ∙ none n slot (omega arith) known) in
    grind (arith, state-left)

-- the slots that are pending are those that hold an instance where the plan is followed
pub held-is : (plan : Planning) (n slot : ℕ) → held_before plan.placed (flags_of plan) plan.from (has_bit plan.pending) n slot ≡ pending_before plan n slot
unfolding held_before pending_before
held-is plan zero slot = refl
held-is plan (suc n) slot =
    let at : plan.from + n - plan.from ≡ n = omega arith in
    ap (λ b. (b || releases_in plan.placed (plan.from + n) slot) && not (planned_at plan (plan.from + n - plan.from) slot)) (held-is plan n slot)
    ∙ ap (λ k. pending_in plan.placed (plan.from + n) (pending_before plan n) slot && not (planned_at plan k slot)) at

-- where no instance is missed the plan keeps the table
pub good-cycle : (plan : Planning) (n m : ℕ) → HasNoMiss plan n → m < n → IsGoodCycle plan.placed (flags_of plan) plan.from (has_bit plan.pending) m
good-cycle plan n m none within =
    let at : plan.from + m - plan.from ≡ m = omega arith in
    grind (arith, held-is, planned-pending)
