-- One pass over a line with the filling `Skip`.
use Rattle.std.proofs.Common.{◌≡◌, ℕ, ◌+◌, ◌-◌, ◌<◌, ◌≤◌, ◌||◌, Bool, false, nat_eq, nat_le, Option, List, [], ◌∷◌, ◌++◌, sym, ap, ◌∙◌, arith}
use Rattle.std.specs.List.{list_any}
use Rattle.std.proofs.lemmas.Bool.{eq-eqb, eqb-true, le-leb, lt-leb}
use Rattle.std.proofs.lemmas.List.{append-nil}
use Rattle.std.proofs.lemmas.List.Folds.{list_any-append}
use Rattle.std.proofs.lemmas.List.Sums.{sum_by-append, sum_by-cons}
use Rattle.bit_sets.specs.Sets.{has_bit}
use Rattle.planner_policies.specs.declared.Fill.TheVariants.{Skip}
use Rattle.planner_policies.specs.declared.due.Due.{Due}
use Rattle.planner_policies.specs.declared.state.Miss.{Miss}
use Rattle.planner_policies.specs.Due.{IsLeastMissed, left_of, taken_of, with_missed}
use Rattle.planner_policies.proofs.DueSlots.{has_slot}
use Rattle.planner_policies.proofs.TakenEach.{cost_of, left-append, taken-append}
use Rattle.planner_policies.proofs.Filling.{same-test}
use Rattle.planner_policies.proofs.Missed.{least_missed-with}

-- the set has the slots of the instances
abbrev pub HasSlots : ℕ → List Due → Type 0
HasSlots mask line = (slot : ℕ) → has_bit mask slot ≡ list_any (has_slot slot) line

-- what is taken of the instances so far, and what is left
pub record HasGone (window c : ℕ) (line : List Due) (width mask others : ℕ) (least : Option Miss) : Type 0 where
  pub width_is : width ≡ cost_of (taken_of Skip window line)
  pub fits : width ≤ window
  pub taken : HasSlots mask (taken_of Skip window line)
  pub left : HasSlots others (left_of Skip window line)
  pub least_is : IsLeastMissed c (left_of Skip window line) least

one-more : (slot : ℕ) (line : List Due) (d : Due) → list_any (has_slot slot) (line ++ d ∷ []) ≡ (nat_eq slot d.slot || list_any (has_slot slot) line)
one-more slot line d =
    list_any-append (has_slot slot) line (d ∷ [])
    ∙ turned (list_any (has_slot slot) line) (nat_eq d.slot slot)
    ∙ ap (λ b. b || list_any (has_slot slot) line)
    (same-test (nat_eq d.slot slot) (nat_eq slot d.slot) (λ same. eq-eqb slot d.slot (sym (eqb-true d.slot slot same))) (λ same. eq-eqb d.slot slot (sym (eqb-true slot d.slot same))))
  where
    turned : (a b : Bool) → (a || (b || false)) ≡ (b || a)
    turned a b = grind arith

module _ (window c : ℕ) (line : List Due) (d : Due) (width mask others : ℕ) (least : Option Miss) (gone : HasGone window c line width mask others least) where
  room : window - cost_of (taken_of Skip window line) ≡ window - width
  room = let is = gone.width_is in omega arith

  -- one more instance that fits
  pub gone-take : (with' : ℕ) → d.cost ≤ window - width → ((slot : ℕ) → has_bit with' slot ≡ (nat_eq slot d.slot || has_bit mask slot))
      → HasGone window c (line ++ d ∷ []) (width + d.cost) with' others least
  gone-take with' fits made =
      grind (arith, cost_of, room, le-leb, taken-append, left-append, append-nil, sum_by-append, sum_by-cons, one-more, has_slot)

  -- one more instance that does not fit
  pub gone-leave : (with' : ℕ) → window - width < d.cost → ((slot : ℕ) → has_bit with' slot ≡ (nat_eq slot d.slot || has_bit others slot))
      → HasGone window c (line ++ d ∷ []) width mask with' (with_missed c least d)
  gone-leave with' wide made =
      let big : nat_le d.cost (window - cost_of (taken_of Skip window line)) ≡ false = rw room (lt-leb d.cost (window - width) wide) in
      grind (arith, taken-append, append-nil, left-append, has_slot, one-more, least_missed-with)
