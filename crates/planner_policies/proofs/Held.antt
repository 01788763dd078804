-- Which slots have an instance that was released before a cycle.
use Rattle.std.proofs.Common.{◌≡◌, ℕ, ◌^◌, ◌<◌, ◌&&◌, not, Bool, true, false, nat_eq, nat_lt, Option, Some, None, List, IsPermutation, refl, sym, ap, ◌∙◌}
use Rattle.std.specs.List.{list_any}
use Rattle.std.specs.Option.{option_map_or}
use Rattle.std.proofs.lemmas.Bool.{lt-ltb, ltb-true, eq-eqb, eqb-true, and_parts, and_from}
use Rattle.std.proofs.lemmas.List.Folds.{Any-from_list_any, list_any-from_Any}
use Rattle.std.proofs.lemmas.List.Sorted.{list_any-IsPermutation}
use Rattle.requirement_table.specs.declared.entries.Placed.{Placed}
use Rattle.requirement_table.specs.Instance.{instance_of, release_of}
use Rattle.bit_sets.specs.Sets.{has_bit, most_slots}
use Rattle.requirement_table.specs.Table.{IsHeldFrom, IsWellPlaced, instance_in}
use Rattle.requirement_table.proofs.Shared.{MaySend-from_instance, found-in, found-of}
use Rattle.bit_sets.proofs.Shared.{empty-set, has_bit-none}
use Rattle.planner_policies.specs.Due.{holds_of, is_held_in}
use Rattle.planner_policies.specs.Plan.{IsValid}

pub held-parts : (o : Option ℕ) (p : Placed) (c : ℕ) → option_map_or (λ k. nat_lt (release_of p k) c) o false ≡ true
    → (k : ℕ) × (o ≡ Some k) × (release_of p k < c)
held-parts (Some k) p c test = (k, refl, ltb-true (release_of p k) c test)
held-parts None p c test = absurd (cc)

pub held-from : (placed : List Placed) (c slot : ℕ) → IsWellPlaced placed → list_any (holds_of c slot) placed ≡ true → IsHeldFrom placed c slot
held-from placed c slot well test =
    let any = Any-from_list_any (holds_of c slot) placed test in
    let p = any.1 in
    let parts = and_parts (nat_eq p.entry.slot slot) (is_held_in c p) any.4 in
    let held = held-parts (instance_of p c) p c parts.1 in
    let found = found-of placed p held.0 c well (any.0, any.2, any.3) (MaySend-from_instance p held.0 c held.1) in
    record {
      instance = record { placed = p; number = held.0 };
      found = ap (λ s. instance_in placed s c) (sym (eqb-true p.entry.slot slot parts.0)) ∙ found;
      before = held.2;
    }

pub held-test : (placed : List Placed) (c slot : ℕ) → IsWellPlaced placed → IsHeldFrom placed c slot → list_any (holds_of c slot) placed ≡ true
held-test placed c slot well held =
    let i = held.instance in
    let found = found-in placed slot c i well held.found in
    let number = ap (λ o. option_map_or (λ k. nat_lt (release_of i.placed k) c) o false) found.number in
    list_any-from_Any (holds_of c slot) placed (
      found.stands.0,
      i.placed,
      found.stands.1,
      found.stands.2,
      and_from (nat_eq i.placed.entry.slot slot) (is_held_in c i.placed) (eq-eqb i.placed.entry.slot slot found.of_slot)
          (number ∙ lt-ltb (release_of i.placed i.number) c held.before),
    )

-- what is left of the pending slots, without those that have such an instance
abbrev IsRest : List Placed → ℕ → ℕ → ℕ → Type 0
IsRest rows c pending rest = (slot : ℕ) → has_bit rest slot ≡ (has_bit pending slot && not (list_any (holds_of c slot) rows))

none-left : (b held : Bool) → b ≡ true → false ≡ (b && not held) → held ≡ true
none-left b true is none = refl
none-left b false is none = absurd (cc)

left-none : (b held : Bool) → (b ≡ true → held ≡ true) → (b && not held) ≡ false
left-none true held all = let is = all refl in rw is refl
left-none false held all = refl

pub valid-sound : (placed rows : List Placed) (c pending rest : ℕ) → IsWellPlaced placed → IsPermutation placed rows → IsRest rows c pending rest
    → rest ≡ 0 → IsValid placed c pending
valid-sound placed rows c pending rest well same left none slot waiting =
    let here = sym (has_bit-none slot) ∙ ap (λ m. has_bit m slot) (sym none) ∙ left slot in
    let held = none-left (has_bit pending slot) (list_any (holds_of c slot) rows) waiting here in
    held-from placed c slot well (list_any-IsPermutation (holds_of c slot) placed rows same ∙ held)

pub valid-complete : (placed rows : List Placed) (c pending rest : ℕ) → IsWellPlaced placed → IsPermutation placed rows → IsRest rows c pending rest
    → rest < 2 ^ most_slots → IsValid placed c pending → rest ≡ 0
valid-complete placed rows c pending rest well same left below valid =
    empty-set most_slots rest below
    (λ slot known. left slot ∙ left-none (has_bit pending slot) (list_any (holds_of c slot) rows)
    (λ waiting. sym (list_any-IsPermutation (holds_of c slot) placed rows same) ∙ held-test placed c slot well (valid slot waiting)))
