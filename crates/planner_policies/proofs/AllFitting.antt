-- All that is pending in a cycle, where it fits the window together.
use Rattle.std.proofs.Common.{◌≡◌, ℕ, ◌≢◌, ◌+◌, ◌-◌, ◌<◌, ◌≤◌, ◌||◌, ◌^◌, Bool, true, false, None, Contains, IsPermutation, nat_eq, nat_le, if◌then◌else◌, List, [], ◌∷◌, ◌++◌, All, get_or, take, length, refl, sym, ap, ◌∙◌, ⊎_elim, arith}
use Rattle.std.proofs.lemmas.Grind.{common_steps}
use Rattle.std.specs.List.{list_any}
use Rattle.std.proofs.lemmas.Bool.{both_ways, cases_Bool, le-leb}
use Rattle.std.proofs.lemmas.List.Elements.{All-cons, All-nil, All-weaker}
use Rattle.std.proofs.lemmas.List.Sums.{sum_by-cons}
use Rattle.requirement_table.specs.declared.entries.Placed.{Placed}
use Rattle.bit_sets.specs.Sets.{has_bit, most_slots}
use Rattle.requirement_table.specs.Table.{IsWellPlaced}
use Rattle.bit_sets.proofs.Shared.{has_bit-none, turned-eq}
use Rattle.planner_policies.specs.declared.Fill.{Fill}
use Rattle.planner_policies.specs.declared.Fill.TheVariants.{Prefix, Skip}
use Rattle.planner_policies.specs.declared.due.Due.{Due}
use Rattle.planner_policies.specs.Due.{IsAllFitting, IsDueOf, IsLined, IsPlanned, IsPutIn, IsSetOf, is_due_by, left_of, taken_of}
use Rattle.planner_policies.specs.Plan.{IsValid, Planning}
use Rattle.planner_policies.proofs.Cycles.{split-of, split-planned}
use Rattle.planner_policies.proofs.DueSlots.{IsSplit, has_slot}
use Rattle.planner_policies.proofs.EachLoop.{HasSlots}
use Rattle.planner_policies.proofs.KeyOrder.{due_by-trans}
use Rattle.planner_policies.proofs.Pairs.{pairs-head, pairs-tail}
use Rattle.planner_policies.proofs.Rows.{IsLineOf, IsMore, line_of-more, line_of-none, whole_line-of}
use Rattle.planner_policies.proofs.TakenEach.{cost_of}

-- a filling takes all of what fits together, and leaves nothing
all-taken : (fill : Fill) (window : ℕ) (line : List Due) → cost_of line ≤ window → taken_of fill window line ≡ line
all-taken fill window [] fits = refl
all-taken Prefix window (x ∷ xs) fits =
    let sum = sum_by-cons (λ (due : Due). due.cost) x xs in
    let small : nat_le x.cost window ≡ true = le-leb x.cost window (omega arith) in
    ap (λ b. if b then x ∷ taken_of Prefix (window - x.cost) xs else []) small
    ∙ ap (λ rest. x ∷ rest) (all-taken Prefix (window - x.cost) xs (omega arith))
all-taken Skip window (x ∷ xs) fits =
    let sum = sum_by-cons (λ (due : Due). due.cost) x xs in
    let small : nat_le x.cost window ≡ true = le-leb x.cost window (omega arith) in
    ap (λ b. if b then x ∷ taken_of Skip (window - x.cost) xs else taken_of Skip window xs) small
    ∙ ap (λ rest. x ∷ rest) (all-taken Skip (window - x.cost) xs (omega arith))

none-left : (fill : Fill) (window : ℕ) (line : List Due) → cost_of line ≤ window → left_of fill window line ≡ []
none-left fill window [] fits = refl
none-left Prefix window (x ∷ xs) fits =
    let sum = sum_by-cons (λ (due : Due). due.cost) x xs in
    let small : nat_le x.cost window ≡ true = le-leb x.cost window (omega arith) in
    ap (λ b. if b then left_of Prefix (window - x.cost) xs else x ∷ xs) small
    ∙ none-left Prefix (window - x.cost) xs (omega arith)
none-left Skip window (x ∷ xs) fits =
    let sum = sum_by-cons (λ (due : Due). due.cost) x xs in
    let small : nat_le x.cost window ≡ true = le-leb x.cost window (omega arith) in
    ap (λ b. if b then left_of Skip (window - x.cost) xs else x ∷ left_of Skip window xs) small
    ∙ none-left Skip (window - x.cost) xs (omega arith)

split-all : (plan : Planning) (c : ℕ) (before : ℕ → Bool) (mask width : ℕ) (all : IsAllFitting plan c before mask width)
    → IsSplit plan c before all.line []
split-all plan c before mask width all =
    let small : cost_of all.line ≤ plan.window = omega arith in
    rw (all-taken plan.fill plan.window all.line small, none-left plan.fill plan.window all.line small) at (split-of plan c before all.line plan.fill refl all.whole)

-- all is planned
pub all-planned : (plan : Planning) (c : ℕ) (before : ℕ → Bool) (mask width next : ℕ) → IsAllFitting plan c before mask width → next ≡ 0
    → IsPlanned plan c before mask width next
all-planned plan c before mask width next all none =
    let empty : IsSetOf next [] = record { slots = λ slot. ap (λ m. has_bit m slot) none ∙ has_bit-none slot; below = omega arith } in
    split-planned plan c before all.line [] (split-all plan c before mask width all) mask width next all.slots all.cost all.fits empty
    (All-nil (λ due. due.last ≢ c))

-- an instance has a place in a line
pub record IsPut (due : Due) (line : List Due) : Type 0 where
  pub after : List Due
  pub put : IsPutIn due line after

put-behind : (x : Due) (xs : List Due) (due : Due) → is_due_by x due ≡ true → IsPut due xs → IsPut due (x ∷ xs)
put-behind x xs due goes rest = record {
  after = x ∷ rest.after;
  put = record {
    front = x ∷ rest.put.front;
    back = rest.put.back;
    was = ap (λ ys. x ∷ ys) rest.put.was;
    is = ap (λ ys. x ∷ ys) rest.put.is;
    before = All-cons (λ other. is_due_by other due ≡ true) x rest.put.front goes rest.put.before;
    behind = rest.put.behind;
  };
}

put-before : (line : List Due) (due : Due) → All (λ other. is_due_by other due ≡ false) line → IsPut due line
put-before line due behind = record {
  after = due ∷ line;
  put = grind arith;
}

not-by : (b : Bool) → (b ≡ true → ⊥) → b ≡ false
not-by b wrong = grind arith

pub put-somewhere : (line : List Due) (due : Due) → IsLined line → IsPut due line
put-somewhere [] due lined = put-before [] due (All-nil (λ other. is_due_by other due ≡ false))
put-somewhere (x ∷ xs) due lined =
    ⊎_elim
    (λ (goes : is_due_by x due ≡ true).
    put-behind x xs due goes (put-somewhere xs due (pairs-tail (λ one other. is_due_by one other ≡ true) x xs lined)))
    (λ (stays : is_due_by x due ≡ false).
    put-before (x ∷ xs) due
    (All-cons (λ other. is_due_by other due ≡ false) x xs stays
    (All-weaker (λ other. is_due_by x other ≡ true) (λ other. is_due_by other due ≡ false)
    (λ other first. not-by (is_due_by other due) (λ second. both_ways (is_due_by x due) stays (due_by-trans x other due first second)))
    xs (pairs-head (λ one other. is_due_by one other ≡ true) x xs lined))))
    (cases_Bool (is_due_by x due))

-- what one instance more adds, wherever it is put
pub cost-between : (front : List Due) (due : Due) (back : List Due) → cost_of (front ++ (due ∷ back)) ≡ due.cost + cost_of (front ++ back)
cost-between front due back = grind (arith, common_steps, sum_by-cons)

pub any-between : (p : Due → Bool) (front : List Due) (due : Due) (back : List Due)
    → list_any p (front ++ (due ∷ back)) ≡ (p due || list_any p (front ++ back))
any-between p [] due back = refl
any-between p (x ∷ front) due back =
    ap (λ b. p x || b) (any-between p front due back) ∙ turned (p x) (p due) (list_any p (front ++ back))
  where
    turned : (a b r : Bool) → (a || (b || r)) ≡ (b || (a || r))
    turned a b r = grind arith

-- what is pending of some rows fits the window
pub record IsGathered (plan : Planning) (c : ℕ) (before : ℕ → Bool) (rows : List Placed) (mask width : ℕ) : Type 0 where
  pub line : List Due
  pub found : IsLineOf plan c before rows line
  pub slots : HasSlots mask line
  pub cost : width ≡ cost_of line
  pub fits : width ≤ plan.window

pub gathered-more : (plan : Planning) (c : ℕ) (before : ℕ → Bool) (rows : List Placed) (k : ℕ) (d : Placed) (mask width with' : ℕ) (due : Due)
    → k < length rows → (so_far : IsGathered plan c before (take k rows) mask width) → IsMore plan c before rows k d so_far.line due
    → due.cost ≤ plan.window - width → ((slot : ℕ) → has_bit with' slot ≡ (nat_eq slot due.slot || has_bit mask slot))
    → IsGathered plan c before (take (k + 1) rows) with' (width + due.cost)
gathered-more plan c before rows k d mask width with' due within so_far more small made =
    let line = so_far.line in
    let place = put-somewhere line due so_far.found.lined in
    let put = place.put in
    let cost = so_far.cost in
    let fits = so_far.fits in
    let sum : cost_of place.after ≡ due.cost + cost_of line
    = ap cost_of put.is ∙ cost-between put.front due put.back ∙ ap (λ (xs : List Due). due.cost + cost_of xs) (sym put.was) in
    record {
      line = place.after;
      found = line_of-more plan c before rows k d line place.after due within so_far.found more put;
      slots = grind (arith, turned-eq, has_slot, any-between);
      cost = omega arith;
      fits = omega arith;
    }

pub gathered-none : (plan : Planning) (c : ℕ) (before : ℕ → Bool) (rows : List Placed) (k : ℕ) (d : Placed) (mask width : ℕ)
    → IsWellPlaced plan.placed → k < length rows → Contains plan.placed (get_or rows k d) → IsGathered plan c before (take k rows) mask width
    → IsDueOf plan.policy before c (get_or rows k d) None → IsGathered plan c before (take (k + 1) rows) mask width
gathered-none plan c before rows k d mask width well within stands so_far none = record {
  line = so_far.line;
  found = line_of-none plan c before rows k d so_far.line well within stands so_far.found none;
  slots = so_far.slots;
  cost = so_far.cost;
  fits = so_far.fits;
}

pub gathered-whole : (plan : Planning) (c pending : ℕ) (rows : List Placed) (mask width : ℕ) → IsWellPlaced plan.placed
    → IsPermutation plan.placed rows → IsValid plan.placed c pending → mask < 2 ^ most_slots
    → IsGathered plan c (has_bit pending) rows mask width → IsAllFitting plan c (has_bit pending) mask width
gathered-whole plan c pending rows mask width well same valid below all = record {
  line = all.line;
  whole = whole_line-of plan c pending rows all.line well same valid all.found;
  slots = record { slots = all.slots; below = below };
  cost = all.cost;
  fits = all.fits;
}
