-- With the filling `Prefix` the first instances of a line are planned, as many as fit the window together.
use Rattle.std.proofs.Common.{◌≡◌, ◌≢◌, ℕ, zero, suc, ◌+◌, ◌-◌, ◌<◌, ◌≤◌, Bool, true, nat_le, List, [], ◌∷◌, All, length, take, drop, refl, sym, ap, ◌∙◌, ⊎_elim, arith}
use Rattle.std.proofs.lemmas.Grind.{common_steps}
use Rattle.std.specs.List.{list_any, sum_by}
use Rattle.std.proofs.lemmas.Bool.{cases_lt, le-leb, lt-leb}
use Rattle.std.proofs.lemmas.List.{length-map, take-map, take-take}
use Rattle.std.proofs.lemmas.List.Elements.{All-contains, All-map, All-take, All-weaker}
use Rattle.std.proofs.lemmas.List.Sums.{sum_by-cons, sum_by-take-le}
use Rattle.bit_sets.specs.Sets.{most_slots}
use Rattle.requirement_table.specs.Table.{worst_in}
use Rattle.planner_policies.specs.declared.Fill.TheVariants.{Prefix}
use Rattle.planner_policies.specs.declared.due.Due.{Due}
use Rattle.planner_policies.specs.Due.{IsDueIn, IsLongestFit, IsWholeLine, left_of, taken_of}
use Rattle.planner_policies.specs.Order.{IsInKeyOrder, IsLongestFront}
use Rattle.planner_policies.specs.Plan.{Planning, is_by, left_after, pending_in, planned_in}
use Rattle.planner_policies.proofs.DueSlots.{IsSplit, contain-slots, due_by-is, has_slot, instance-with, order_of, slot_of, slots-contain, sum-costs}
use Rattle.planner_policies.proofs.Filling.{same-test}
use Rattle.planner_policies.proofs.Longest.{left-iff, planned-iff}
use Rattle.planner_policies.proofs.Pairs.{pairs-map, pairs-take}

order-is : (plan : Planning) (c : ℕ) (before : ℕ → Bool) (line : List Due) → IsWholeLine plan c before line → IsInKeyOrder plan c before (order_of line)
order-is plan c before line whole = record {
  known = All-map (λ x. x < most_slots) slot_of line (All-weaker (IsDueIn plan c before) (λ due. due.slot < most_slots) (λ due is. is.known) line whole.each);
  distinct = pairs-map (λ v w. v ≢ w) slot_of line whole.distinct;
  in_order = pairs-map (λ v w. is_by plan.policy plan.placed c v w ≡ true) slot_of line
      (λ i j d first within. grind (arith, due_by-is));
  pending = λ slot known. (
    λ waits. slots-contain slot line (whole.all slot known waits),
    λ contains.
        let one = instance-with slot line contains in
        let in' = All-contains (IsDueIn plan c before) line one.due whole.each one.stands in
        ap (pending_in plan.placed c before) (sym one.value) ∙ in'.pending,
  );
}

sum-front : (plan : Planning) (c : ℕ) (before : ℕ → Bool) (line : List Due) (m : ℕ) → All (IsDueIn plan c before) line
    → sum_by (worst_in plan.placed c) (take m (order_of line)) ≡ sum_by (λ due. due.cost) (take m line)
sum-front plan c before line m each =
    ap (sum_by (worst_in plan.placed c)) (take-map slot_of m line) ∙ sum-costs plan c before (take m line) (All-take (IsDueIn plan c before) m line each)

front-is : (plan : Planning) (c : ℕ) (before : ℕ → Bool) (line : List Due) (n : ℕ) → All (IsDueIn plan c before) line → IsLongestFit plan.window line n
    → IsLongestFront (worst_in plan.placed c) plan.window (order_of line) n
front-is plan c before line n each fit =
    let size : length (order_of line) ≡ length line = length-map line slot_of in
    let within = fit.within in
    record {
      within = omega arith;
      fits = rw (sum-front plan c before line n each) fit.fits;
      longest = λ m short fits.
          ⊎_elim
          (λ (more : n < m).
          let cost : Due → ℕ = λ due. due.cost in
          let held : sum_by cost (take m line) ≤ plan.window = rw (sum-front plan c before line m each) at fits in
          let less : sum_by cost (take (n + 1) line) ≤ sum_by cost (take m line)
          = rw (← take-take (n + 1) m line (omega arith)) (sum_by-take-le cost (take m line) (n + 1)) in
          absurd (omega arith))
          (λ (few : m ≤ n). few)
          (cases_lt n m);
    }

-- the slots of the first ones are planned, and those of the others are left
planned-is : (plan : Planning) (c : ℕ) (before : ℕ → Bool) (line : List Due) (n slot : ℕ) → plan.fill ≡ Prefix → IsWholeLine plan c before line
    → IsLongestFit plan.window line n → slot < most_slots → list_any (has_slot slot) (take n line) ≡ planned_in plan c before slot
planned-is plan c before line n slot prefix whole fit known =
    let iff = planned-iff plan c before (order_of line) n slot prefix (order-is plan c before line whole) (front-is plan c before line n whole.each fit) known in
    grind (arith, order_of, take-map, slot_of, same-test, has_slot, slots-contain, contain-slots)

order-drop : (n : ℕ) (xs : List Due) → drop n (order_of xs) ≡ order_of (drop n xs)
order-drop zero xs = refl
order-drop (suc n) [] = refl
order-drop (suc n) (x ∷ xs) = order-drop n xs

left-is : (plan : Planning) (c : ℕ) (before : ℕ → Bool) (line : List Due) (n slot : ℕ) → plan.fill ≡ Prefix → IsWholeLine plan c before line
    → IsLongestFit plan.window line n → slot < most_slots → list_any (has_slot slot) (drop n line) ≡ left_after plan c before slot
left-is plan c before line n slot prefix whole fit known =
    let iff = left-iff plan c before (order_of line) n slot prefix (order-is plan c before line whole) (front-is plan c before line n whole.each fit) known in
    grind (arith, order_of, order-drop, same-test, has_slot, slots-contain, contain-slots)

-- the first ones are what the filling takes of the line, and the others what it leaves
record IsCut (window : ℕ) (line : List Due) (n : ℕ) : Type 0 where
  taken : taken_of Prefix window line ≡ take n line
  left : left_of Prefix window line ≡ drop n line

cut-more : (window n : ℕ) (x : Due) (xs : List Due) → nat_le x.cost window ≡ true → IsCut (window - x.cost) xs n → IsCut window (x ∷ xs) (suc n)
cut-more window n x xs fits rest = grind arith

cut-at : (window n : ℕ) (line : List Due) → IsLongestFit window line n → IsCut window line n
cut-at window zero [] fit = record { taken = refl; left = refl }
cut-at window (suc n) [] fit = absurd (let within = fit.within in omega arith)
cut-at window zero (x ∷ xs) fit = grind (arith, sum_by-cons, lt-leb)
cut-at window (suc n) (x ∷ xs) fit =
    let here = sum_by-cons (λ (due : Due). due.cost) x (take n xs) in
    let more = sum_by-cons (λ (due : Due). due.cost) x (take (n + 1) xs) in
    cut-more window n x xs (le-leb x.cost window (omega arith))
    (cut-at (window - x.cost) n xs (grind arith))

-- there are such first ones
record HasFit (window : ℕ) (line : List Due) : Type 0 where
  number : ℕ
  fit : IsLongestFit window line number

fit-of : (window : ℕ) (line : List Due) → HasFit window line
fit-of window [] = record { number = 0; fit = record { within = omega arith; fits = omega arith; next = λ less. absurd (omega arith) } }
fit-of window (x ∷ xs) =
    ⊎_elim
    (λ (wide : window < x.cost). grind arith)
    (λ (fits : x.cost ≤ window).
    let rest = fit-of (window - x.cost) xs in
    let n = rest.number in
    let within = rest.fit.within in
    let next = rest.fit.next in
    let here = sum_by-cons (λ (due : Due). due.cost) x (take n xs) in
    let more = sum_by-cons (λ (due : Due). due.cost) x (take (n + 1) xs) in
    let at : suc n + 1 ≡ suc (n + 1) = omega arith in
    record {
      number = suc n;
      fit = record { within = omega arith; fits = omega arith; next = λ less. let wide = next (omega arith) in rw at (omega arith) };
    })
    (cases_lt window x.cost)

pub split-front : (plan : Planning) (c : ℕ) (before : ℕ → Bool) (line : List Due) → plan.fill ≡ Prefix → IsWholeLine plan c before line
    → IsSplit plan c before (taken_of Prefix plan.window line) (left_of Prefix plan.window line)
split-front plan c before line prefix whole =
    let has = fit-of plan.window line in
    let n = has.number in
    let cut = cut-at plan.window n line has.fit in
    let split : IsSplit plan c before (take n line) (drop n line)
    = grind (arith, common_steps, pairs-take, planned-is, left-is) in
    rw (cut.taken, cut.left) split

-- what the filling takes of a line, where so many of its first ones are the longest front that fits
pub taken-front : (window n : ℕ) (line : List Due) → IsLongestFit window line n → taken_of Prefix window line ≡ take n line
taken-front window n line fit = (cut-at window n line fit).taken

pub left-front : (window n : ℕ) (line : List Due) → IsLongestFit window line n → left_of Prefix window line ≡ drop n line
left-front window n line fit = (cut-at window n line fit).left
