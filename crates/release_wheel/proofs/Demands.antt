-- Where nothing is pending before a cycle, and what is released in it fits the window, nothing is pending after it.
use Rattle.std.proofs.Common.{◌≡◌, ◌≢◌, ℕ, ◌+◌, ◌-◌, ◌<◌, ◌≤◌, ◌&&◌, ◌||◌, not, Bool, true, false, nat_eq, nat_lt, if◌then◌else◌, Option, Some, is_some, List, [], ◌∷◌, get_or, length, replicate, set, take, refl, sym, ap, ◌∙◌, ⊎_elim, arith}
use Rattle.std.proofs.lemmas.Grind.{common_steps}
use Rattle.std.specs.Prelude.{sum_by}
use Rattle.std.proofs.lemmas.Bool.{and_parts, cases_eq, cases_lt, eqb-true, lt-ltb}
use Rattle.std.proofs.lemmas.List.{get_or-replicate, get_or-set_other, get_or-set_same, length-set, take_all}
use Rattle.std.proofs.lemmas.List.Folds.{Any-from_list_any}
use Rattle.std.proofs.lemmas.List.Sums.{get_or-le-sum_by, sum_by-cons, sum_by_more}
use Rattle.requirement_table.specs.declared.entries.Placed.{Placed}
use Rattle.requirement_table.specs.Instance.{Exists, IsReleasedIn, released_by, worst}
use Rattle.bit_sets.specs.Sets.{has_bit, most_slots, set_of, sum_where}
use Rattle.requirement_table.specs.Table.{IsInRange, IsWellPlaced, is_last_in, releases_in, width_in, worst_in}
use Rattle.requirement_table.proofs.Shared.{IsReleasedIn-from_released_by, found-of}
use Rattle.bit_sets.proofs.Shared.{sum_where-most, has_bit-empty, set_of-none, sum_where-add, sum_where-fewer, sum_where-one}
use Rattle.planner_policies.specs.Plan.{HasNoMissIn, IsValid, Planning, Ranking, left_after, pending_in, planned_in, planning_of}
use Rattle.planner_policies.proofs.Shared.{taken-all}
use Rattle.release_wheel.specs.Demand.{cost_in, demand_in}
use Rattle.release_wheel.specs.Passed.{LeavesSame}
use Rattle.release_wheel.specs.Wheel.{IsNextRelease}
use Rattle.release_wheel.proofs.RowDues.{next-after, sends-released}

-- Sums over slots

at-most : (b : Bool) (x most : ℕ) → x ≤ most → (if b then x else 0) ≤ most
at-most b x most small = grind arith

-- an amount for one slot, and nothing for the others
abbrev for_slot : ℕ → ℕ → ℕ → ℕ
for_slot k x slot = if nat_eq k slot then x else 0

sum-one : (n k x : ℕ) (p : ℕ → Bool) → sum_where n p (λ slot. for_slot k x slot) ≤ x
sum-one n k x p = grind (arith, sum_where-one, at-most, cases_lt)

sum-parts : (n : ℕ) (p : ℕ → Bool) (f g h : ℕ → ℕ) → ((slot : ℕ) → f slot ≤ g slot + h slot) → sum_where n p f ≤ sum_where n p g + sum_where n p h
sum-parts n p f g h each =
    let less : sum_where n p f ≤ sum_where n p (λ slot. g slot + h slot) = sum_where-fewer n p f (λ slot. g slot + h slot) (λ slot below passes. each slot) in
    grind (arith, sum_where-add)

-- What slots cost

-- what the entries of a slot release in a cycle
abbrev share : List Placed → ℕ → ℕ → ℕ
share placed c slot = sum_by (λ p. for_slot p.entry.slot (cost_in p c) slot) placed

share-cons : (p : Placed) (ps : List Placed) (c slot : ℕ) → share (p ∷ ps) c slot ≤ for_slot p.entry.slot (cost_in p c) slot + share ps c slot
share-cons p ps c slot = grind (arith, common_steps, sum_by-cons)

-- the shares of the slots are no more than all that is released
shares-all : (placed : List Placed) (c : ℕ) (flagged : ℕ → Bool) → sum_where most_slots flagged (λ slot. share placed c slot) ≤ demand_in placed c
shares-all [] c flagged =
    let none : sum_where most_slots flagged (λ _. 0) ≤ 0
    = let few = sum_where-most most_slots 0 flagged (λ _. 0) (λ slot below. omega arith) in omega arith in
    none
shares-all (p ∷ ps) c flagged =
    let one = sum-one most_slots p.entry.slot (cost_in p c) flagged in
    let both = sum-parts most_slots flagged (λ slot. share (p ∷ ps) c slot) (λ slot. for_slot p.entry.slot (cost_in p c) slot) (λ slot. share ps c slot)
    (λ slot. share-cons p ps c slot) in
    let rest = shares-all ps c flagged in
    let sum = sum_by-cons (λ (q : Placed). cost_in q c) p ps in
    omega (arith, one, both, rest, sum)

number-of : (o : Option ℕ) → is_some o ≡ true → (k : ℕ) × (o ≡ Some k)
number-of o is = grind arith

released-of : (p : Placed) (c : ℕ) → is_some (released_by p c) ≡ true → (k : ℕ) × IsReleasedIn p k c
released-of p c is = let number = number-of (released_by p c) is in (number.0, IsReleasedIn-from_released_by p number.0 c number.1)

-- a slot with a release costs what it releases
released-share : (placed : List Placed) (c slot : ℕ) → IsWellPlaced placed → releases_in placed c slot ≡ true → worst_in placed c slot ≤ share placed c slot
released-share placed c slot well test =
    let any = Any-from_list_any (λ q. nat_eq q.entry.slot slot && is_some (released_by q c)) placed test in
    grind (arith, and_parts, is_some, released-of, sends-released, eqb-true, found-of, get_or-le-sum_by)

-- where nothing is pending before a cycle, what is pending in it is what is released in it
width-released : (placed : List Placed) (c pending : ℕ) → IsWellPlaced placed → pending ≡ 0
    → width_in placed c (pending_in placed c (has_bit pending)) ≤ demand_in placed c
width-released placed c pending well none =
    let flagged : ℕ → Bool = pending_in placed c (has_bit pending) in
    let less = sum_where-fewer most_slots flagged (worst_in placed c) (λ slot. share placed c slot)
    (λ slot below is. released-share placed c slot well (sym (ap (λ b. b || releases_in placed c slot) (has_bit-empty pending slot none)) ∙ is)) in
    grind (arith, shares-all)

-- all of it is planned, and nothing is left
module _ (plan : Planning) (c pending : ℕ) (well : IsWellPlaced plan.placed) (none : pending ≡ 0) (fits : demand_in plan.placed c ≤ plan.window) where
  none-left : (slot : ℕ) → slot < most_slots → left_after plan c (has_bit pending) slot ≡ false
  none-left slot known = pick (pending_in plan.placed c (has_bit pending) slot) refl
    where
      pick : (b : Bool) → pending_in plan.placed c (has_bit pending) slot ≡ b → (b && not (planned_in plan c (has_bit pending) slot)) ≡ false
      pick b is = grind (arith, width-released, taken-all)

  none-missed : HasNoMissIn plan c (has_bit pending)
  none-missed slot known = ap (λ b. b && is_last_in plan.placed c slot) (none-left slot known)

  left-none : set_of most_slots (left_after plan c (has_bit pending)) ≡ 0
  left-none = grind (arith, set_of-none, none-left)

pub leaves-none : (ranking : Ranking) (window c pending : ℕ) → IsWellPlaced ranking.placed → pending ≡ 0 → demand_in ranking.placed c ≤ window
    → LeavesSame (planning_of ranking window c pending)
leaves-none ranking window c pending well none fits = record {
  none_missed = none-missed (planning_of ranking window c pending) c pending well none fits;
  left = none ∙ sym (left-none (planning_of ranking window c pending) c pending well none fits);
}

-- a state in which nothing is pending is valid
pub none-valid : (placed : List Placed) (c pending : ℕ) → pending ≡ 0 → IsValid placed c pending
none-valid placed c pending h0 = grind (arith, has_bit-empty)

-- What the releases of entries sum to, cycle by cycle

-- what an entry costs in a cycle before `at` in which it releases an instance
abbrev cost_before : Placed → ℕ → ℕ → ℕ
cost_before p c at = if is_some (released_by p c) && nat_lt c at then worst p.entry.length else 0

-- the releases before the cycle `at` are added, and the next one comes in `cycle`
pub record IsAdding (p : Placed) (w from cycle : ℕ) (old new : List ℕ) : Type 0 where
  pub at : ℕ
  pub begun : from ≤ at
  pub reached : at ≤ cycle
  pub next : IsNextRelease p at cycle
  pub size : length new ≡ 256
  pub within : (k : ℕ) → k < 256 → get_or new k 0 ≤ w
  pub more : (k : ℕ) → k < 256 → get_or old k 0 + cost_before p (from + k) at ≤ get_or new k 0

pub adding-start : (p : Placed) (w from cycle : ℕ) (old : List ℕ) → IsNextRelease p from cycle → from ≤ cycle → length old ≡ 256
    → ((k : ℕ) → k < 256 → get_or old k 0 ≤ w) → IsAdding p w from cycle old old
adding-start p w from cycle old next later size within = grind arith

-- a release at or after `at` is not before the next one
not-between : (p : Placed) (at cycle c : ℕ) → IsNextRelease p at cycle → is_some (released_by p c) ≡ true → at ≤ c → cycle ≤ c
not-between p at cycle c next is later = grind (arith, released-of)

module _ (p : Placed) (w from cycle : ℕ) (old new : List ℕ) (adding : IsAdding p w from cycle old new) where
  -- the next release is added
  pub adding-next : (place taken cost : ℕ) → IsInRange p → place ≡ cycle - from → place < 256 → taken ≡ get_or new place 0
      → cost ≡ worst p.entry.length → cost ≤ w - taken → IsAdding p w from (cycle + p.entry.period) old (set new place (taken + cost))
  adding-next place taken cost range place_is few taken_is cost_is small =
      let begun = adding.begun in
      let reached = adding.reached in
      let size = adding.size in
      let here : IsNextRelease p cycle cycle = grind (arith, common_steps) in
      let same-at : (k : ℕ) → place ≡ k → get_or (set new place (taken + cost)) k 0 ≡ taken + cost = λ k same.
      ap (λ j. get_or (set new place (taken + cost)) j 0) (sym same) ∙ get_or-set_same new place (taken + cost) 0 (omega arith) in
      let other-at : (k : ℕ) → place ≢ k → get_or (set new place (taken + cost)) k 0 ≡ get_or new k 0 = λ k apart.
      get_or-set_other new place k (taken + cost) 0 (λ (same : k ≡ place). apart (sym same)) in
      record {
        at = cycle + 1;
        begun = omega arith;
        reached = omega arith;
        next = next-after p cycle cycle range here refl;
        size = length-set new place (taken + cost) ∙ size;
        within = λ k below.
            ⊎_elim
            (λ (same : place ≡ k). let read = same-at k same in omega arith)
            (λ (apart : place ≢ k). let read = other-at k apart in let was = adding.within k below in omega arith)
            (cases_eq place k);
        more = grind (arith, at-most, is_some, nat_lt);
      }

  -- all releases are added
  pub adding-end : (end until : ℕ) → end ≤ cycle → ((c : ℕ) → c < until → Exists p c → c < end) → (k : ℕ) → k < 256 → from + k < until
      → get_or old k 0 + cost_in p (from + k) ≤ get_or new k 0
  adding-end end until over ends k few below =
      grind (arith, pick, is_some)
    where
      pick : (b : Bool) → is_some (released_by p (from + k)) ≡ b
          → (if b then worst p.entry.length else 0) ≤ (if b && nat_lt (from + k) adding.at then worst p.entry.length else 0)
      pick b is = grind (arith, lt-ltb, not-between, released-of, cases_lt)

-- what is released in each cycle of a block is no more than what stands at its place, and that fits the window
pub record IsSummed (placed : List Placed) (w from until : ℕ) (demand : List ℕ) : Type 0 where
  pub within : (k : ℕ) → k < 256 → get_or demand k 0 ≤ w
  pub covers : (k : ℕ) → k < 256 → from + k < until → demand_in placed (from + k) ≤ get_or demand k 0

pub summed-start : (w from until : ℕ) → IsSummed [] w from until (replicate 256 0)
summed-start w from until = record {
  within = λ k few. let read : get_or (replicate {A = ℕ} 256 0) k 0 ≡ 0 = get_or-replicate 256 k 0 0 few in omega (arith, read);
  covers = λ k few below. omega arith;
}

pub summed-more : (placed : List Placed) (i : ℕ) (d : Placed) (w from until : ℕ) (old new : List ℕ) → i < length placed
    → IsSummed (take i placed) w from until old → ((k : ℕ) → k < 256 → get_or new k 0 ≤ w)
    → ((k : ℕ) → k < 256 → from + k < until → get_or old k 0 + cost_in (get_or placed i d) (from + k) ≤ get_or new k 0)
    → IsSummed (take (i + 1) placed) w from until new
summed-more placed i d w from until old new there summed within more = grind (arith, sum_by_more)

pub summed-all : (placed : List Placed) (i w from until : ℕ) (demand : List ℕ) → length placed ≤ i → until ≤ from + 256
    → IsSummed (take i placed) w from until demand → (c : ℕ) → from ≤ c → c < until → demand_in placed c ≤ w
summed-all placed i w from until demand all few summed c begun below =
    let there : from + (c - from) ≡ c = omega arith in
    grind (arith, take_all)
