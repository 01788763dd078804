-- With the filling `Skip` each instance of a line that still fits is planned.
use Rattle.std.proofs.Common.{◌≡◌, ◌≢◌, ℕ, ◌+◌, ◌-◌, ◌<◌, ◌&&◌, ◌||◌, not, Bool, true, false, nat_eq, nat_le, if◌then◌else◌, List, [], ◌∷◌, ◌++◌, All, AllPairs, get_or, refl, sym, ap, ◌∙◌, ⊎_elim, arith}
use Rattle.std.proofs.lemmas.Grind.{common_steps}
use Rattle.std.specs.List.{list_any, sum_by}
use Rattle.std.proofs.lemmas.Bool.{and_from, and_parts, both_ways, cases_Bool, eq-eqb, eqb-true, false_from_ne_true, le-leb, leb-true, or_cases, or_left, or_from}
use Rattle.std.proofs.lemmas.List.Elements.{All-cons, All-contains, All-head, All-map, All-nil, All-tail, All-weaker}
use Rattle.std.proofs.lemmas.List.Folds.{list_any-append}
use Rattle.std.proofs.lemmas.List.Sums.{sum_by-cons}
use Rattle.bit_sets.specs.Sets.{most_slots}
use Rattle.requirement_table.specs.Table.{width_in, worst_in}
use Rattle.bit_sets.proofs.Shared.{sum_where-same}
use Rattle.planner_policies.specs.declared.Fill.TheVariants.{Skip}
use Rattle.planner_policies.specs.declared.due.Due.{Due}
use Rattle.planner_policies.specs.Due.{IsDueIn, IsWholeLine, is_due_by, left_of, taken_of}
use Rattle.planner_policies.specs.Plan.{Planning, goes_before, pending_in, planned_in}
use Rattle.planner_policies.proofs.DueSlots.{IsSplit, cost-is, due_by-is, has-order, has_slot, instance-with, order_of, slot_of, slots-contain, sum-costs}
use Rattle.planner_policies.proofs.Filling.{before-from, fits_with, same-test, taken-one}
use Rattle.planner_policies.proofs.KeyOrder.{is_by-refl}
use Rattle.planner_policies.proofs.Longest.{has, sum_where-list}
use Rattle.planner_policies.proofs.Pairs.{all-parts, pairs-before, pairs-behind, pairs-cons, pairs-front, pairs-head, pairs-map, pairs-tail}

abbrev pub cost_of : List Due → ℕ
cost_of line = sum_by (λ due. due.cost) line

-- one instance more at the front of a line

taken-fitting : (window : ℕ) (x : Due) (xs : List Due) → nat_le x.cost window ≡ true → taken_of Skip window (x ∷ xs) ≡ x ∷ taken_of Skip (window - x.cost) xs
taken-fitting window x xs fits = ap (λ b. if b then x ∷ taken_of Skip (window - x.cost) xs else taken_of Skip window xs) fits

taken-wide : (window : ℕ) (x : Due) (xs : List Due) → nat_le x.cost window ≡ false → taken_of Skip window (x ∷ xs) ≡ taken_of Skip window xs
taken-wide window x xs wide = ap (λ b. if b then x ∷ taken_of Skip (window - x.cost) xs else taken_of Skip window xs) wide

left-fitting : (window : ℕ) (x : Due) (xs : List Due) → nat_le x.cost window ≡ true → left_of Skip window (x ∷ xs) ≡ left_of Skip (window - x.cost) xs
left-fitting window x xs fits = ap (λ b. if b then left_of Skip (window - x.cost) xs else x ∷ left_of Skip window xs) fits

left-wide : (window : ℕ) (x : Due) (xs : List Due) → nat_le x.cost window ≡ false → left_of Skip window (x ∷ xs) ≡ x ∷ left_of Skip window xs
left-wide window x xs wide = ap (λ b. if b then left_of Skip (window - x.cost) xs else x ∷ left_of Skip window xs) wide

-- what is taken and left of two lines, one behind the other
pub taken-append : (window : ℕ) (xs ys : List Due)
    → taken_of Skip window (xs ++ ys) ≡ taken_of Skip window xs ++ taken_of Skip (window - cost_of (taken_of Skip window xs)) ys
taken-append window [] ys = ap (λ (w : ℕ). taken_of Skip w ys) (omega arith)
taken-append window (x ∷ xs) ys =
    ⊎_elim
    (λ (fits : nat_le x.cost window ≡ true).
    let rest = taken-append (window - x.cost) xs ys in
    let sum = sum_by-cons (λ (due : Due). due.cost) x (taken_of Skip (window - x.cost) xs) in
    let room : (window - x.cost) - cost_of (taken_of Skip (window - x.cost) xs) ≡ window - cost_of (x ∷ taken_of Skip (window - x.cost) xs) = omega arith in
    taken-fitting window x (xs ++ ys) fits
    ∙ ap (λ zs. x ∷ zs) rest
    ∙ ap (λ w. (x ∷ taken_of Skip (window - x.cost) xs) ++ taken_of Skip w ys) room
    ∙ ap (λ zs. zs ++ taken_of Skip (window - cost_of zs) ys) (sym (taken-fitting window x xs fits)))
    (λ (wide : nat_le x.cost window ≡ false).
    taken-wide window x (xs ++ ys) wide
    ∙ taken-append window xs ys
    ∙ ap (λ zs. zs ++ taken_of Skip (window - cost_of zs) ys) (sym (taken-wide window x xs wide)))
    (cases_Bool (nat_le x.cost window))

pub left-append : (window : ℕ) (xs ys : List Due)
    → left_of Skip window (xs ++ ys) ≡ left_of Skip window xs ++ left_of Skip (window - cost_of (taken_of Skip window xs)) ys
left-append window [] ys = ap (λ (w : ℕ). left_of Skip w ys) (omega arith)
left-append window (x ∷ xs) ys =
    ⊎_elim
    (λ (fits : nat_le x.cost window ≡ true).
    let rest = left-append (window - x.cost) xs ys in
    let sum = sum_by-cons (λ (due : Due). due.cost) x (taken_of Skip (window - x.cost) xs) in
    let room : (window - x.cost) - cost_of (taken_of Skip (window - x.cost) xs) ≡ window - cost_of (x ∷ taken_of Skip (window - x.cost) xs) = omega arith in
    left-fitting window x (xs ++ ys) fits
    ∙ rest
    ∙ ap (λ w. left_of Skip (window - x.cost) xs ++ left_of Skip w ys) room
    ∙ ap (λ zs. left_of Skip (window - x.cost) xs ++ left_of Skip (window - cost_of zs) ys) (sym (taken-fitting window x xs fits))
    ∙ ap (λ zs. zs ++ left_of Skip (window - cost_of (taken_of Skip window (x ∷ xs))) ys) (sym (left-fitting window x xs fits)))
    (λ (wide : nat_le x.cost window ≡ false).
    left-wide window x (xs ++ ys) wide
    ∙ ap (λ zs. x ∷ zs) (left-append window xs ys)
    ∙ ap (λ zs. (x ∷ left_of Skip window xs) ++ left_of Skip (window - cost_of zs) ys) (sym (taken-wide window x xs wide))
    ∙ ap (λ zs. zs ++ left_of Skip (window - cost_of (taken_of Skip window (x ∷ xs))) ys) (sym (left-wide window x xs wide)))
    (cases_Bool (nat_le x.cost window))

-- what holds of the line holds of what is taken and of what is left
all-taken : (P : Due → Type 0) (window : ℕ) (line : List Due) → All P line → All P (taken_of Skip window line)
all-taken P window [] all = All-nil P
all-taken P window (x ∷ xs) all =
    let rest = All-tail P x xs all in
    ⊎_elim
    (λ (fits : nat_le x.cost window ≡ true).
    rw (taken-fitting window x xs fits)
    (All-cons P x (taken_of Skip (window - x.cost) xs) (All-head P x xs all) (all-taken P (window - x.cost) xs rest)))
    (λ (wide : nat_le x.cost window ≡ false). rw (taken-wide window x xs wide) (all-taken P window xs rest))
    (cases_Bool (nat_le x.cost window))

all-left : (P : Due → Type 0) (window : ℕ) (line : List Due) → All P line → All P (left_of Skip window line)
all-left P window [] all = All-nil P
all-left P window (x ∷ xs) all =
    let rest = All-tail P x xs all in
    ⊎_elim
    (λ (fits : nat_le x.cost window ≡ true). rw (left-fitting window x xs fits) (all-left P (window - x.cost) xs rest))
    (λ (wide : nat_le x.cost window ≡ false).
    rw (left-wide window x xs wide) (All-cons P x (left_of Skip window xs) (All-head P x xs all) (all-left P window xs rest)))
    (cases_Bool (nat_le x.cost window))

pairs-taken : (R : Due → Due → Type 0) (window : ℕ) (line : List Due) → AllPairs R line → AllPairs R (taken_of Skip window line)
pairs-taken R window [] pairs = pairs
pairs-taken R window (x ∷ xs) pairs =
    let rest = pairs-tail R x xs pairs in
    ⊎_elim
    (λ (fits : nat_le x.cost window ≡ true).
    rw (taken-fitting window x xs fits)
    (pairs-cons R x (taken_of Skip (window - x.cost) xs) (all-taken (R x) (window - x.cost) xs (pairs-head R x xs pairs)) (pairs-taken R (window - x.cost) xs rest)))
    (λ (wide : nat_le x.cost window ≡ false). rw (taken-wide window x xs wide) (pairs-taken R window xs rest))
    (cases_Bool (nat_le x.cost window))

abbrev Apart : Due → Due → Type 0
Apart one other = one.slot ≢ other.slot

-- no instance of a list is of the slot
none-of : (slot : ℕ) (line : List Due) → All (λ other. slot ≢ other.slot) line → list_any (has_slot slot) line ≡ false
none-of slot [] apart = refl
none-of slot (x ∷ xs) apart =
    or_from (nat_eq x.slot slot) (list_any (has_slot slot) xs)
    (false_from_ne_true (nat_eq x.slot slot) (λ same. All-head (λ other. slot ≢ other.slot) x xs apart (sym (eqb-true x.slot slot same))))
    (none-of slot xs (All-tail (λ other. slot ≢ other.slot) x xs apart))

-- of each instance of the line either it is taken or it is left
left-rest : (slot window : ℕ) (line : List Due) → AllPairs Apart line
    → list_any (has_slot slot) (left_of Skip window line) ≡ (list_any (has_slot slot) line && not (list_any (has_slot slot) (taken_of Skip window line)))
left-rest slot window [] distinct = refl
left-rest slot window (x ∷ xs) distinct =
    let apart = pairs-head Apart x xs distinct in
    let rest = pairs-tail Apart x xs distinct in
    ⊎_elim
    (λ (fits : nat_le x.cost window ≡ true).
    ap (list_any (has_slot slot)) (left-fitting window x xs fits)
    ∙ one-taken (nat_eq x.slot slot) (list_any (has_slot slot) xs) (list_any (has_slot slot) (taken_of Skip (window - x.cost) xs))
    (list_any (has_slot slot) (left_of Skip (window - x.cost) xs)) (left-rest slot (window - x.cost) xs rest)
    (λ same. none-of slot (left_of Skip (window - x.cost) xs) (rw (← eqb-true x.slot slot same) (all-left (Apart x) (window - x.cost) xs apart)))
    ∙ ap (λ ys. list_any (has_slot slot) (x ∷ xs) && not (list_any (has_slot slot) ys)) (sym (taken-fitting window x xs fits)))
    (λ (wide : nat_le x.cost window ≡ false).
    ap (list_any (has_slot slot)) (left-wide window x xs wide)
    ∙ one-left (nat_eq x.slot slot) (list_any (has_slot slot) xs) (list_any (has_slot slot) (taken_of Skip window xs))
    (list_any (has_slot slot) (left_of Skip window xs)) (left-rest slot window xs rest)
    (λ same. none-of slot (taken_of Skip window xs) (rw (← eqb-true x.slot slot same) (all-taken (Apart x) window xs apart)))
    ∙ ap (λ ys. list_any (has_slot slot) (x ∷ xs) && not (list_any (has_slot slot) ys)) (sym (taken-wide window x xs wide)))
    (cases_Bool (nat_le x.cost window))
  where
    one-taken : (same all taken left : Bool) → left ≡ (all && not taken) → (same ≡ true → left ≡ false) → left ≡ ((same || all) && not (same || taken))
    one-taken same all taken left is none = grind arith

    one-left : (same all taken left : Bool) → left ≡ (all && not taken) → (same ≡ true → taken ≡ false) → (same || left) ≡ ((same || all) && not taken)
    one-left same all taken left is none = grind arith

-- where the instance of a slot stands in a line
record StandsAt (slot : ℕ) (line : List Due) : Type 0 where
  front : List Due
  due : Due
  back : List Due
  is : line ≡ front ++ (due ∷ back)
  value : due.slot ≡ slot

stands-at : (slot : ℕ) (line : List Due) → list_any (has_slot slot) line ≡ true → StandsAt slot line
stands-at slot [] found = absurd (cc)
stands-at slot (x ∷ xs) found =
    ⊎_elim
    (λ (here : nat_eq x.slot slot ≡ true). record { front = []; due = x; back = xs; is = refl; value = eqb-true x.slot slot here })
    (λ (later : list_any (has_slot slot) xs ≡ true).
    let rest = stands-at slot xs later in
    record { front = x ∷ rest.front; due = rest.due; back = rest.back; is = ap (λ ys. x ∷ ys) rest.is; value = rest.value })
    (or_cases (nat_eq x.slot slot) (list_any (has_slot slot) xs) found)

module _ (plan : Planning) (c : ℕ) (before : ℕ → Bool) where
  abbrev In : Due → Type 0
  In = IsDueIn plan c before

  abbrev IsBefore : ℕ → Due → Type 0
  IsBefore slot due = goes_before plan.policy plan.placed c due.slot slot ≡ true

  abbrev IsBehind : ℕ → Due → Type 0
  IsBehind slot due = goes_before plan.policy plan.placed c due.slot slot ≡ false

  -- of the instances of a list, all of which go before a slot, or none
  some-before : (slot other : ℕ) (line : List Due) → All (IsBefore slot) line
      → (list_any (has_slot other) line && goes_before plan.policy plan.placed c other slot) ≡ list_any (has_slot other) line
  some-before slot other line first =
      same-test (list_any (has_slot other) line && goes_before plan.policy plan.placed c other slot) (list_any (has_slot other) line)
      (λ both. (and_parts (list_any (has_slot other) line) (goes_before plan.policy plan.placed c other slot) both).0)
      (λ found.
      let one = instance-with other line (slots-contain other line found) in
      and_from (list_any (has_slot other) line) (goes_before plan.policy plan.placed c other slot) found
      (ap (λ s. goes_before plan.policy plan.placed c s slot) (sym one.value) ∙ All-contains (IsBefore slot) line one.due first one.stands))

  none-before : (slot other : ℕ) (line : List Due) → All (IsBehind slot) line
      → (list_any (has_slot other) line && goes_before plan.policy plan.placed c other slot) ≡ false
  none-before slot other line behind =
      false_from_ne_true (list_any (has_slot other) line && goes_before plan.policy plan.placed c other slot) (λ both.
      let parts = and_parts (list_any (has_slot other) line) (goes_before plan.policy plan.placed c other slot) both in
      let one = instance-with other line (slots-contain other line parts.0) in
      both_ways (goes_before plan.policy plan.placed c other slot)
      (ap (λ s. goes_before plan.policy plan.placed c s slot) (sym one.value) ∙ All-contains (IsBehind slot) line one.due behind one.stands) parts.1)

  parted : (a b before : Bool) → (a && before) ≡ a → (b && before) ≡ false → ((a || b) && before) ≡ a
  parted a b true first second = ap (λ x. (a || x) && true) (sym (and-true b) ∙ second) ∙ or-none a
    where
      and-true : (x : Bool) → (x && true) ≡ x
      and-true x = grind arith

      or-none : (x : Bool) → ((x || false) && true) ≡ x
      or-none x = grind arith
  parted true b false first second = first
  parted false true false first second = refl
  parted false false false first second = refl

  module _ (window : ℕ) (line : List Due) (whole : IsWholeLine plan c before line) where
    abbrev test : ℕ → Bool
    test slot = list_any (has_slot slot) (taken_of Skip window line)

    -- the line has just the slots that are pending
    in-line : (slot : ℕ) → slot < most_slots → list_any (has_slot slot) line ≡ pending_in plan.placed c before slot
    in-line slot known =
        same-test (list_any (has_slot slot) line) (pending_in plan.placed c before slot)
        (λ found.
        let one = instance-with slot line (slots-contain slot line found) in
        ap (pending_in plan.placed c before) (sym one.value) ∙ (All-contains In line one.due whole.each one.stands).pending)
        (λ waiting. whole.all slot known waiting)

    -- what stands at the front of the line, the instance of a slot, and what stands behind it
    module _ (front : List Due) (due : Due) (back : List Due) (is : line ≡ front ++ (due ∷ back)) where
      room : ℕ
      room = window - cost_of (taken_of Skip window front)

      front-parts : (P : Due → Type 0) → All P line → All P front × All P (due ∷ back)
      front-parts P all = all-parts P front (due ∷ back) (rw is at all)

      here : In due
      here = All-head In due back (front-parts In whole.each).1

      before-it : All (IsBefore due.slot) front
      before-it = λ k d within.
          let one = get_or front k d in
          let lined = pairs-before (λ v w. is_due_by v w ≡ true) front due back (rw is at whole.lined) k d within in
          let apart = pairs-before Apart front due back (rw is at whole.distinct) k d within in
          before-from plan.policy plan.placed c one.slot due.slot (due_by-is plan c before one due ((front-parts In whole.each).0 k d within) here ∙ lined) apart

      behind-it : All (IsBehind due.slot) (due ∷ back)
      behind-it =
          All-cons (IsBehind due.slot) due back (ap not (is_by-refl plan.policy plan.placed c due.slot))
          (λ k d within.
          let one = get_or back k d in
          let lined = pairs-behind (λ v w. is_due_by v w ≡ true) front due back (rw is at whole.lined) k d within in
          ap not (due_by-is plan c before due one here (All-tail In due back (front-parts In whole.each).1 k d within) ∙ lined))

      taken-is : taken_of Skip window line ≡ taken_of Skip window front ++ taken_of Skip room (due ∷ back)
      unfolding room
      taken-is = ap (taken_of Skip window) is ∙ taken-append window front (due ∷ back)

      -- what is taken before it costs what is taken of the front
      width-before : width_in plan.placed c (λ other. test other && goes_before plan.policy plan.placed c other due.slot) ≡ cost_of (taken_of Skip window front)
      width-before =
          let taken = taken_of Skip window front in
          let each = all-taken In window front (front-parts In whole.each).0 in
          sum_where-same most_slots (λ other. test other && goes_before plan.policy plan.placed c other due.slot) (has (order_of taken)) (worst_in plan.placed c)
          (λ other known.
          ap (λ b. b && goes_before plan.policy plan.placed c other due.slot)
          (ap (list_any (has_slot other)) taken-is ∙ list_any-append (has_slot other) taken (taken_of Skip room (due ∷ back)))
          ∙ parted (list_any (has_slot other) taken) (list_any (has_slot other) (taken_of Skip room (due ∷ back))) (goes_before plan.policy plan.placed c other due.slot)
          (some-before due.slot other taken (all-taken (IsBefore due.slot) window front before-it))
          (none-before due.slot other (taken_of Skip room (due ∷ back)) (all-taken (IsBehind due.slot) room (due ∷ back) behind-it))
          ∙ has-order other taken)
          ∙ sum_where-list most_slots (order_of taken) (worst_in plan.placed c)
          (All-map (λ x. x < most_slots) slot_of taken (All-weaker In (λ one. one.slot < most_slots) (λ one in'. in'.known) taken each))
          (pairs-map (λ v w. v ≢ w) slot_of taken (pairs-taken Apart window front (pairs-front Apart front (due ∷ back) (rw is at whole.distinct))))
          ∙ sum-costs plan c before taken each

      -- it is taken exactly where it fits what is left of the window
      test-is : test due.slot ≡ nat_le due.cost room
      test-is =
          ap (list_any (has_slot due.slot)) taken-is
          ∙ list_any-append (has_slot due.slot) (taken_of Skip window front) (taken_of Skip room (due ∷ back))
          ∙ ap (λ b. b || list_any (has_slot due.slot) (taken_of Skip room (due ∷ back)))
          (none-of due.slot (taken_of Skip window front) (all-taken (λ other. due.slot ≢ other.slot) window front others))
          ∙ ⊎_elim
          (λ (fits : nat_le due.cost room ≡ true). grind (arith, has_slot, taken-fitting, room, or_left, eq-eqb))
          (λ (wide : nat_le due.cost room ≡ false).
          ap (list_any (has_slot due.slot)) (taken-wide room due back wide)
          ∙ none-of due.slot (taken_of Skip room back) (all-taken (λ other. due.slot ≢ other.slot) room back (pairs-behind Apart front due back (rw is at whole.distinct)))
          ∙ sym wide)
          (cases_Bool (nat_le due.cost room))
        where
          others : All (λ other. due.slot ≢ other.slot) front
          others =
              All-weaker (λ other. other.slot ≢ due.slot) (λ other. due.slot ≢ other.slot) (λ other differ same. differ (sym same)) front
              (pairs-before Apart front due back (rw is at whole.distinct))

      fits-is : fits_with plan.policy window plan.placed c (pending_in plan.placed c before) test due.slot ≡ nat_le due.cost room
      unfolding room
      fits-is = grind (arith, width-before, cost-is, here, same-test, leb-true, le-leb)

    -- each slot is taken exactly where it fits with those taken before it
    takes : (slot : ℕ) → slot < most_slots → test slot ≡ fits_with plan.policy window plan.placed c (pending_in plan.placed c before) test slot
    takes slot known =
        ⊎_elim
        (λ (waiting : pending_in plan.placed c before slot ≡ true).
        let at = stands-at slot line (in-line slot known ∙ waiting) in
        rw (← at.value) (test-is at.front at.due at.back at.is ∙ sym (fits-is at.front at.due at.back at.is)))
        (λ (none : pending_in plan.placed c before slot ≡ false).
        let w = width_in plan.placed c (λ other. test other && goes_before plan.policy plan.placed c other slot) in
        false_from_ne_true (test slot) (λ found.
        let one = instance-with slot (taken_of Skip window line) (slots-contain slot (taken_of Skip window line) found) in
        let in' = All-contains In (taken_of Skip window line) one.due (all-taken In window line whole.each) one.stands in
        both_ways (pending_in plan.placed c before slot) none (ap (pending_in plan.placed c before) (sym one.value) ∙ in'.pending))
        ∙ sym (ap (λ b. b && nat_le (worst_in plan.placed c slot + w) window) none))
        (cases_Bool (pending_in plan.placed c before slot))

pub split-each : (plan : Planning) (c : ℕ) (before : ℕ → Bool) (line : List Due) → plan.fill ≡ Skip → IsWholeLine plan c before line
    → IsSplit plan c before (taken_of Skip plan.window line) (left_of Skip plan.window line)
split-each plan c before line skip whole =
    let planned : (slot : ℕ) → slot < most_slots → list_any (has_slot slot) (taken_of Skip plan.window line) ≡ planned_in plan c before slot
    = λ slot known.
    taken-one plan.policy plan.window plan.placed c (pending_in plan.placed c before) plan.fill
    (λ s. list_any (has_slot s) (taken_of Skip plan.window line)) slot skip (takes plan c before plan.window line whole) known in
    record {
      each_taken = all-taken (IsDueIn plan c before) plan.window line whole.each;
      each_left = all-left (IsDueIn plan c before) plan.window line whole.each;
      distinct = pairs-taken Apart plan.window line whole.distinct;
      planned = planned;
      not_planned = grind (arith, common_steps, left-rest, has_slot, in-line);
    }
