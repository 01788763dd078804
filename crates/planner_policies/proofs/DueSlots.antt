-- Instances of a line, and the slots that they are of.
use Rattle.std.proofs.Common.{◌≡◌, ◌≢◌, ℕ, ◌+◌, ◌<◌, ◌||◌, Bool, true, nat_eq, List, [], ◌∷◌, All, AllPairs, Contains, length, get_or, map, refl, sym, ap, ◌∙◌, arith}
use Rattle.std.specs.List.{list_any, sum_by}
use Rattle.std.specs.Option.{option_map_or}
use Rattle.std.proofs.lemmas.Bool.{eq-eqb, eqb-true}
use Rattle.std.proofs.lemmas.List.{get_or-map, length-map}
use Rattle.std.proofs.lemmas.List.Elements.{All-head, All-tail, Contains-get_or}
use Rattle.std.proofs.lemmas.List.Folds.{Any-from_list_any, list_any-from_Any}
use Rattle.std.proofs.lemmas.List.Sums.{sum_by-cons}
use Rattle.requirement_table.specs.Instance.{worst_of}
use Rattle.bit_sets.specs.Sets.{most_slots}
use Rattle.requirement_table.specs.Table.{is_last_in, worst_in}
use Rattle.planner_policies.specs.declared.due.Due.{Due}
use Rattle.planner_policies.specs.Due.{IsDueIn, is_due_by}
use Rattle.planner_policies.specs.Plan.{Planning, is_by, left_after, planned_in}
use Rattle.planner_policies.proofs.Longest.{has}

abbrev pub slot_of : Due → ℕ
slot_of due = due.slot

abbrev pub has_slot : ℕ → Due → Bool
has_slot slot due = nat_eq due.slot slot

abbrev pub order_of : List Due → List ℕ
order_of line = map (λ due. due.slot) line

pub due_by-is : (plan : Planning) (c : ℕ) (before : ℕ → Bool) (one other : Due) → IsDueIn plan c before one → IsDueIn plan c before other
    → is_by plan.policy plan.placed c one.slot other.slot ≡ is_due_by one other
due_by-is plan c before one other a b = grind arith

pub cost-is : (plan : Planning) (c : ℕ) (before : ℕ → Bool) (due : Due) → IsDueIn plan c before due → worst_in plan.placed c due.slot ≡ due.cost
cost-is plan c before due in' = ap (λ o. option_map_or worst_of o 0) in'.found ∙ sym in'.is.cost

pub last-is : (plan : Planning) (c : ℕ) (before : ℕ → Bool) (due : Due) → IsDueIn plan c before due
    → is_last_in plan.placed c due.slot ≡ nat_eq (due.last + 1) (c + 1)
last-is plan c before due in' = grind arith

-- a list of instances has a slot where the list of their slots does
pub slots-contain : (slot : ℕ) (xs : List Due) → list_any (has_slot slot) xs ≡ true → Contains (order_of xs) slot
slots-contain slot xs found =
    let any = Any-from_list_any (has_slot slot) xs found in
    grind (arith, eqb-true, length-map, get_or-map)

pub record IsInstance (slot : ℕ) (xs : List Due) : Type 0 where
  pub due : Due
  pub stands : Contains xs due
  pub value : due.slot ≡ slot

pub instance-with : (slot : ℕ) (xs : List Due) → Contains (order_of xs) slot → IsInstance slot xs
instance-with slot xs contains =
    let d : Due = record { key = 0; priority = 0; slot = 0; cost = 0; release = 0; last = 0 } in
    let size : length (order_of xs) ≡ length xs = length-map xs slot_of in
    let k = contains.0 in
    let within : k < length xs = omega arith in
    record {
      due = get_or xs k d;
      stands = Contains-get_or xs k d within;
      value = sym (get_or-map slot_of xs k d slot within) ∙ contains.2;
    }

pub contain-slots : (slot : ℕ) (xs : List Due) → Contains (order_of xs) slot → list_any (has_slot slot) xs ≡ true
contain-slots slot xs contains =
    let one = instance-with slot xs contains in
    list_any-from_Any (has_slot slot) xs (one.stands.0, one.due, one.stands.1, one.stands.2, eq-eqb one.due.slot slot one.value)

pub sum-costs : (plan : Planning) (c : ℕ) (before : ℕ → Bool) (xs : List Due) → All (IsDueIn plan c before) xs
    → sum_by (worst_in plan.placed c) (order_of xs) ≡ sum_by (λ due. due.cost) xs
sum-costs plan c before [] each = refl
sum-costs plan c before (x ∷ xs) each =
    sum_by-cons (worst_in plan.placed c) x.slot (order_of xs)
    ∙ ap (λ n. n + sum_by (worst_in plan.placed c) (order_of xs)) (cost-is plan c before x (All-head (IsDueIn plan c before) x xs each))
    ∙ ap (λ n. x.cost + n) (sum-costs plan c before xs (All-tail (IsDueIn plan c before) x xs each))
    ∙ sym (sum_by-cons (λ due. due.cost) x xs)

pub has-order : (slot : ℕ) (xs : List Due) → list_any (has_slot slot) xs ≡ has (order_of xs) slot
has-order slot [] = refl
has-order slot (x ∷ xs) = ap (λ b. nat_eq x.slot slot || b) (has-order slot xs)

-- what is planned of the instances that are pending in a cycle, and what is left of them
pub record IsSplit (plan : Planning) (c : ℕ) (before : ℕ → Bool) (taken left : List Due) : Type 0 where
  pub each_taken : All (IsDueIn plan c before) taken
  pub each_left : All (IsDueIn plan c before) left
  pub distinct : AllPairs (λ one other. one.slot ≢ other.slot) taken
  pub planned : (slot : ℕ) → slot < most_slots → list_any (has_slot slot) taken ≡ planned_in plan c before slot
  pub not_planned : (slot : ℕ) → slot < most_slots → list_any (has_slot slot) left ≡ left_after plan c before slot
