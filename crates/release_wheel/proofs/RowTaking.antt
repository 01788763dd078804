-- What a filling takes of the rows of a set, one after the other.
use Rattle.std.proofs.Common.{◌≡◌, ◌≢◌, ℕ, ◌+◌, ◌-◌, ◌<◌, ◌≤◌, ◌^◌, ◌&&◌, ◌||◌, not, Bool, true, false, nat_eq, nat_le, if◌then◌else◌, List, [], ◌∷◌, length, refl, sym, ap, ◌∙◌, ⊎_elim, arith}
use Rattle.std.proofs.lemmas.Grind.{common_steps}
use Rattle.std.proofs.Math.Bool.{or-false}
use Rattle.std.specs.List.{list_any}
use Rattle.std.proofs.lemmas.Bool.{and_parts, both_ways, cases_Bool, eq-eqb, eqb-false, eqb-true, le-leb, lt-leb, ne_eqb}
use Rattle.std.proofs.lemmas.Bool.Decides.{nat_tests}
use Rattle.std.proofs.lemmas.List.Sums.{sum_by-cons}
use Rattle.requirement_table.specs.declared.entries.Placed.{Placed}
use Rattle.bit_sets.specs.Sets.{has_bit, most_slots}
use Rattle.planner_policies.specs.declared.Fill.{Fill}
use Rattle.planner_policies.specs.declared.Fill.TheVariants.{Prefix, Skip}
use Rattle.planner_policies.specs.declared.due.Due.{Due}
use Rattle.planner_policies.specs.Due.{is_due_by, taken_of}
use Rattle.planner_policies.specs.Plan.{by_number}
use Rattle.release_wheel.specs.Taking.{AreOfDistinctSlots, AreOfRows, IsFirstRow, IsLineOfRows, IsTaking, IsTook}
use Rattle.release_wheel.specs.Wheel.{IsBelow, cost_at, cost_below, slot_at}
use Rattle.planner_policies.proofs.Shared.{has_slot, cost_of}
use Rattle.bit_sets.proofs.Shared.{turned-eq, sum_where-none, from-first, has_bit-none}
use Rattle.release_wheel.proofs.RowSums.{cost-with}

pub cost-none : (entries : List Placed) (n : ℕ) → cost_below entries n 0 ≡ 0
cost-none entries n = sum_where-none n (has_bit 0) (cost_at entries) (λ row below. has_bit-none row)

-- instances that go before each other are of one slot
same-last : (a b c a' b' c' : ℕ) → by_number a a' (by_number b b' (nat_le c c')) ≡ true → by_number a' a (by_number b' b (nat_le c' c)) ≡ true → c ≡ c'
same-last a b c a' b' c' one other = grind (arith, nat_tests)

same-slot : (a b : Due) → is_due_by a b ≡ true → is_due_by b a ≡ true → a.slot ≡ b.slot
same-slot a b one other = same-last a.key a.priority a.slot b.key b.priority b.slot one other

line-same : (dues : ℕ → Due) (p q : ℕ → Bool) (line : List Due) → ((i : ℕ) → p i ≡ q i) → IsLineOfRows dues p line → IsLineOfRows dues q line
line-same dues p q line same is = grind arith

pub taking-start : (fill : Fill) (window : ℕ) (goes : ℕ → ℕ → Bool) (entries : List Placed) (due mask : ℕ)
    → ((slot : ℕ) → has_bit mask slot ≡ false) → IsTaking fill window goes entries due due 0 mask 0
taking-start fill window goes entries due mask empty = grind (arith, both_ways, has_bit-none, cost-none)

-- an instance that fits is taken, with either filling
taken-first : (fill : Fill) (room : ℕ) (due : Due) (line : List Due) → due.cost ≤ room → taken_of fill room (due ∷ line) ≡ due ∷ taken_of fill (room - due.cost) line
taken-first fill room due line small = grind (arith, le-leb)

taken-stop : (room : ℕ) (due : Due) (line : List Due) → room < due.cost → taken_of Prefix room (due ∷ line) ≡ []
taken-stop room due line wide = ap (λ b. if b then due ∷ taken_of Prefix (room - due.cost) line else []) (lt-leb due.cost room wide)

taken-pass : (room : ℕ) (due : Due) (line : List Due) → room < due.cost → taken_of Skip room (due ∷ line) ≡ taken_of Skip room line
taken-pass room due line wide = ap (λ b. if b then due ∷ taken_of Skip (room - due.cost) line else taken_of Skip room line) (lt-leb due.cost room wide)

module _ (fill : Fill) (window : ℕ) (goes : ℕ → ℕ → Bool) (entries : List Placed) (due rest left mask width row : ℕ)
    (t : IsTaking fill window goes entries due rest left mask width) (distinct : AreOfDistinctSlots entries due) (below : IsBelow (length entries) due)
    (first : IsFirstRow goes (has_bit rest) row) where
  within : row < length entries
  within = below row (t.rest_in row first.stands)

  -- a line of the rows begins with this row
  record IsPicked (dues : ℕ → Due) (back : List Due) : Type 0 where
    tail : List Due
    is : back ≡ dues row ∷ tail
    others : IsLineOfRows dues (λ i. not (nat_eq row i) && has_bit rest i) tail

  picked : (dues : ℕ → Due) (back : List Due) → AreOfRows entries goes dues → IsLineOfRows dues (has_bit rest) back → IsPicked dues back
  picked dues [] of is = absurd (both_ways (has_bit rest row) (is row) first.stands)
  picked dues (d ∷ tail) of is = grind (arith, same-slot, within, line-same)

  -- it does not fit, and nothing more is taken
  pub nothing-fits : fill ≡ Prefix → window - width < cost_at entries row → (dues : ℕ → Due) (back : List Due) → AreOfRows entries goes dues
      → IsLineOfRows dues (has_bit rest) back → taken_of fill (window - width) back ≡ []
  nothing-fits stops wide dues back of is =
      let next = picked dues back of is in
      grind (arith, taken-stop)

  -- it is looked at
  module _ (less : ℕ) (made : (i : ℕ) → has_bit less i ≡ (not (nat_eq row i) && has_bit rest i)) where
    gone-here : has_bit less row ≡ false
    gone-here = made row ∙ ap (λ b. not b && has_bit rest row) (eq-eqb row row refl)

    same-other : (i : ℕ) → nat_eq row i ≡ false → has_bit less i ≡ has_bit rest i
    same-other i other = made i ∙ ap (λ b. not b && has_bit rest i) other

    rest-is : (i : ℕ) → has_bit rest i ≡ (nat_eq row i || has_bit less i)
    rest-is i = grind (arith, eqb-true, same-other)

    less-in : (i : ℕ) → has_bit less i ≡ true → has_bit rest i ≡ true
    less-in i in' = (and_parts (not (nat_eq row i)) (has_bit rest i) (sym (made i) ∙ in')).1

    less-other : (i : ℕ) → has_bit less i ≡ true → nat_eq row i ≡ false
    less-other i in' = pick (nat_eq row i) refl
      where
        pick : (b : Bool) → nat_eq row i ≡ b → b ≡ false
        pick b same = grind (arith, both_ways)

    cost-parts : cost_below entries (length entries) rest ≡ cost_below entries (length entries) less + cost_at entries row
    cost-parts = cost-with entries (length entries) less rest row within gone-here rest-is

    -- it fits, and is taken
    pub taking-take : (more : ℕ) → cost_at entries row ≤ window - width
        → ((slot : ℕ) → has_bit more slot ≡ (nat_eq slot (slot_at entries row) || has_bit mask slot))
        → IsTaking fill window goes entries due less left more (width + cost_at entries row)
    taking-take more small slots = record {
      kept = λ i in'.
          ⊎_elim
          (λ (same : nat_eq row i ≡ true). grind (arith, eqb-true, gone-here, eq-eqb))
          (λ (other : nat_eq row i ≡ false).
          let apart : slot_at entries i ≢ slot_at entries row
          = λ same. eqb-false row i other (sym (distinct i row in' (t.rest_in row first.stands) same)) in
          rw (same-other i other, slots (slot_at entries i), ne_eqb (slot_at entries i) (slot_at entries row) apart) (t.kept i in'))
          (cases_Bool (nat_eq row i));
      rest_in = λ i in'. t.rest_in i (less-in i in');
      left_in = t.left_in;
      apart = λ i in'. t.apart i (less-in i in');
      fits = let fits = t.fits in omega arith;
      cost = let was = t.cost in let parts = cost-parts in omega arith;
      taken = λ dues line of is.
          let so_far = t.taken dues line of is in
          let next = picked dues so_far.back of so_far.of_rest in
          let d = dues row in
          let cost : d.cost ≡ cost_at entries row = of.cost row in
          let room : window - width - d.cost ≡ window - (width + cost_at entries row) = omega arith in
          let taken : taken_of fill (window - width) so_far.back ≡ d ∷ taken_of fill (window - (width + cost_at entries row)) next.tail
          = ap (taken_of fill (window - width)) next.is ∙ taken-first fill (window - width) d next.tail (omega arith)
          ∙ ap (λ r. d ∷ taken_of fill r next.tail) room in
          record {
            back = next.tail;
            of_rest = line-same dues (λ i. not (nat_eq row i) && has_bit rest i) (has_bit less) next.tail (λ i. sym (made i)) next.others;
            width_is = grind (arith, common_steps, sum_by-cons, cost_of);
            slots_are = λ slot.
                let later = list_any (has_slot slot) (taken_of fill (window - (width + cost_at entries row)) next.tail) in
                ap (λ b. b || later)
                (slots slot ∙ ap (λ b. b || has_bit mask slot) (turned-eq slot (slot_at entries row) ∙ ap (λ s. nat_eq s slot) (sym (of.slot row))))
                ∙ turned (nat_eq d.slot slot) (has_bit mask slot) later
                ∙ ap (λ xs. has_bit mask slot || list_any (has_slot slot) xs) (sym taken)
                ∙ so_far.slots_are slot;
          };
    }
      where
        turned : (a b r : Bool) → ((a || b) || r) ≡ (b || (a || r))
        turned true true r = refl
        turned true false r = refl
        turned false b r = refl

    -- it does not fit, and is passed over
    pub taking-pass : (more : ℕ) → fill ≡ Skip → window - width < cost_at entries row
        → ((i : ℕ) → has_bit more i ≡ (nat_eq row i || has_bit left i)) → IsTaking fill window goes entries due less more mask width
    taking-pass more skips wide rows = record {
      kept = grind (arith, eqb-true, gone-here, eq-eqb, same-other);
      rest_in = λ i in'. t.rest_in i (less-in i in');
      left_in = λ i in'.
          ⊎_elim
          (λ (same : nat_eq row i ≡ true). ap (has_bit due) (sym (eqb-true row i same)) ∙ t.rest_in row first.stands)
          (λ (other : nat_eq row i ≡ false). t.left_in i (sym (ap (λ b. b || has_bit left i) other) ∙ sym (rows i) ∙ in'))
          (cases_Bool (nat_eq row i));
      apart = λ i in'. rows i ∙ ap (λ b. b || has_bit left i) (less-other i in') ∙ t.apart i (less-in i in');
      fits = t.fits;
      cost = let was = t.cost in let parts = cost-parts in
          let more_cost = cost-with entries (length entries) left more row within (t.apart row first.stands) rows in omega arith;
      taken = λ dues line of is.
          let so_far = t.taken dues line of is in
          let next = picked dues so_far.back of so_far.of_rest in
          let passed : taken_of fill (window - width) so_far.back ≡ taken_of fill (window - width) next.tail
          = ap (taken_of fill (window - width)) next.is
          ∙ ap (λ f. taken_of f (window - width) (dues row ∷ next.tail)) skips
          ∙ taken-pass (window - width) (dues row) next.tail (omega arith)
          ∙ ap (λ f. taken_of f (window - width) next.tail) (sym skips) in
          record {
            back = next.tail;
            of_rest = line-same dues (λ i. not (nat_eq row i) && has_bit rest i) (has_bit less) next.tail (λ i. sym (made i)) next.others;
            width_is = ap (λ xs. width + cost_of xs) (sym passed) ∙ so_far.width_is;
            slots_are = λ slot. ap (λ xs. has_bit mask slot || list_any (has_slot slot) xs) (sym passed) ∙ so_far.slots_are slot;
          };
    }

-- nothing is to be looked at any more
pub nothing-left : (fill : Fill) (room rest : ℕ) (dues : ℕ → Due) (back : List Due) → rest ≡ 0 → IsLineOfRows dues (has_bit rest) back → taken_of fill room back ≡ []
nothing-left fill room rest dues [] none is = refl
nothing-left fill room rest dues (d ∷ tail) none is = grind (arith, both_ways, has_bit-none)

pub took : (fill : Fill) (window : ℕ) (goes : ℕ → ℕ → Bool) (entries : List Placed) (due rest left mask width gone : ℕ)
    → IsTaking fill window goes entries due rest left mask width
    → ((dues : ℕ → Due) (back : List Due) → AreOfRows entries goes dues → IsLineOfRows dues (has_bit rest) back
    → taken_of fill (window - width) back ≡ [])
    → ((i : ℕ) → has_bit gone i ≡ (has_bit rest i || has_bit left i))
    → cost_below entries (length entries) gone ≡ cost_below entries (length entries) rest + cost_below entries (length entries) left
    → mask < 2 ^ most_slots → IsTook fill window goes entries due gone mask width
took fill window goes entries due rest left mask width gone t stops rows cost small = record {
  left_is = λ i. rows i ∙ left-is i (has_bit due i) refl;
  mask_is = grind (arith, or-false, has_slot);
  width_is = grind (arith, common_steps, cost_of);
  fits = t.fits;
  cost = let was = t.cost in omega arith;
}
  where
    out : (i : ℕ) (set' : ℕ) → ((j : ℕ) → has_bit set' j ≡ true → has_bit due j ≡ true) → has_bit due i ≡ false → has_bit set' i ≡ false
    out i set' in' none = pick (has_bit set' i) refl
      where
        pick : (b : Bool) → has_bit set' i ≡ b → b ≡ false
        pick true is = absurd (both_ways (has_bit due i) none (in' i is))
        pick false is = refl

    left-is : (i : ℕ) (b : Bool) → has_bit due i ≡ b → (has_bit rest i || has_bit left i) ≡ (has_bit due i && not (has_bit mask (slot_at entries i)))
    left-is i true is = t.kept i is ∙ sym (ap (λ b. b && not (has_bit mask (slot_at entries i))) is)
    left-is i false is = rw (is, out i rest t.rest_in is, out i left t.left_in is) refl

-- the first row of a set goes first by its own number
pub first-row : (set' row : ℕ) → has_bit set' row ≡ true → ((i : ℕ) → i < row → has_bit set' i ≡ false) → IsFirstRow nat_le (has_bit set') row
first-row set' row stands none = grind (arith, le-leb, from-first)
