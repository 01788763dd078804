-- A cycle that is planned by rows, and the wheel after it.
use Rattle.std.proofs.Common.{◌≡◌, ◌≢◌, ℕ, zero, suc, ◌+◌, ◌%◌, ◌<◌, ◌≤◌, ◌^◌, ◌&&◌, ◌||◌, not, Bool, true, false, nat_eq, nat_le, if◌then◌else◌, Some, None, List, IsPermutation, get_or, length, take, length-take, refl, sym, ap, subst, ◌∙◌, ⊎_elim, arith}
use Rattle.std.proofs.lemmas.Grind.{common_steps}
use Rattle.std.proofs.Math.Bool.{or-false}
use Rattle.std.specs.List.{list_any}
use Rattle.std.proofs.lemmas.Bool.{and_from, and_parts, both_ways, cases_lt, eq-eqb, eqb-true, false_from_ne_true, lt-ltb, ne_eqb, or_cases, or_left}
use Rattle.std.proofs.lemmas.List.{get_or-take, take_all}
use Rattle.std.proofs.lemmas.List.Elements.{All-contains, Contains-get_or}
use Rattle.std.proofs.lemmas.List.Folds.{list_any-from_Any}
use Rattle.std.proofs.lemmas.Option.{same_Some}
use Rattle.requirement_table.specs.declared.entries.Placed.{Placed}
use Rattle.requirement_table.specs.Instance.{Exists, MaySend, deadline_of, instance_of, release_of}
use Rattle.bit_sets.specs.Sets.{has_bit, most_slots}
use Rattle.requirement_table.specs.Table.{IsInRange, IsWellPlaced, is_last_in}
use Rattle.requirement_table.proofs.Shared.{MaySend-from_instance, instance_of-sent}
use Rattle.bit_sets.proofs.Shared.{has_bit-none, set_of-from_slots, sum_where-or, has_bit-empty}
use Rattle.planner_policies.specs.declared.Policy.{Policy}
use Rattle.planner_policies.specs.declared.Policy.TheVariants.{Edf}
use Rattle.planner_policies.specs.declared.due.Due.{Due}
use Rattle.planner_policies.specs.Due.{IsAllFitting, IsDueIn, IsDueOf, IsPending, IsPlanned, IsSetOf, IsWholeLine, is_due_by, is_held_in, left_of, taken_of}
use Rattle.planner_policies.specs.Plan.{HasNoMissIn, Planning, Ranking, is_missed_in, left_after, pending_in, planning_of}
use Rattle.planner_policies.specs.Ranked.{AreRanked}
use Rattle.release_wheel.specs.declared.dues.Dues.{Dues}
use Rattle.release_wheel.specs.declared.dues.Sum.{Sum}
use Rattle.release_wheel.specs.declared.rows.Rows.{Rows}
use Rattle.release_wheel.specs.declared.wheel.Wheel.{Wheel}
use Rattle.release_wheel.specs.Taking.{AreDue, AreOfDistinctSlots, AreOfRows, IsLineOfRows, IsTook, goes_by, last_of}
use Rattle.release_wheel.specs.Wheel.{AreInTime, HasRoom, IsBelow, IsPart, IsPlannedOn, IsReleased, IsSlotsOf, IsSumOf, IsTurned, IsWheelReady, RowStandsAt, any_below, cost_at, cost_below, due_of_row, no_entry, slot_at}
use Rattle.planner_policies.proofs.Shared.{all-planned, planned-set, planned-width, split-of, IsSplit, has_slot, instance-with, last-is, slots-contain, same-test, held-parts, due_in-of, fresh, sends-test, sends_of, stands-in, whole_line-of, cost_of}
use Rattle.release_wheel.proofs.Releasing.{releasing-end, releasing-from}
use Rattle.release_wheel.proofs.RowDues.{held-is}
use Rattle.release_wheel.proofs.RowLines.{AreDues, IsLineTo, IsOneOf, by-last, by-rank, line-to, line_of-rows}
use Rattle.release_wheel.proofs.RowSums.{any-found, any-same, any-none, cost-both, one-below}
use Rattle.release_wheel.proofs.RowTaking.{cost-none}

-- two rows with an instance of one slot in a cycle are one
pub one-row : (placed entries : List Placed) (c slot i j : ℕ) → IsWellPlaced placed → IsPermutation placed entries → i < length entries → j < length entries
    → sends_of c slot (get_or entries i no_entry) ≡ true → sends_of c slot (get_or entries j no_entry) ≡ true → i ≡ j
one-row placed entries c slot i j well same within_i within_j sends_i sends_j =
    ⊎_elim
    (λ (less : i < j). absurd (apart i j within_i within_j sends_i sends_j less))
    (λ (not : j ≤ i). grind (arith, apart, cases_lt))
    (cases_lt i j)
  where
    apart : (i j : ℕ) → i < length entries → j < length entries → sends_of c slot (get_or entries i no_entry) ≡ true
        → sends_of c slot (get_or entries j no_entry) ≡ true → i < j → ⊥
    apart i j within_i within_j sends_i sends_j less =
        let none = fresh placed entries c slot j no_entry well same within_j sends_j in
        let short : i < length (take j entries) = omega (arith, length-take j entries) in
        let stands = Contains-get_or (take j entries) i no_entry short in
        grind (arith, sends_of, get_or-take, both_ways, list_any-from_Any)

any-or : (n : ℕ) (p q r : ℕ → Bool) → (any_below n (λ i. p i && r i) || any_below n (λ i. q i && r i)) ≡ any_below n (λ i. (p i || q i) && r i)
unfolding any_below
any-or zero p q r = refl
any-or (suc n) p q r =
    along (any_below n (λ i. p i && r i)) (p n && r n) (any_below n (λ i. q i && r i)) (q n && r n)
    ∙ ap (λ b. b || ((p n && r n) || (q n && r n))) (any-or n p q r)
    ∙ ap (λ b. any_below n (λ i. (p i || q i) && r i) || b) (join (p n) (q n) (r n))
  where
    along : (a b c d : Bool) → ((a || b) || (c || d)) ≡ ((a || c) || (b || d))
    along a b c d = grind arith

    join : (a b c : Bool) → ((a && c) || (b && c)) ≡ ((a || b) && c)
    join a b c = grind arith

any-and-not : (n : ℕ) (p r : ℕ → Bool) (s : ℕ) (slot : ℕ → ℕ) (b : Bool) → ((i : ℕ) → nat_eq (slot i) s ≡ true → r i ≡ b)
    → any_below n (λ i. (p i && not (r i)) && nat_eq (slot i) s) ≡ (any_below n (λ i. p i && nat_eq (slot i) s) && not b)
unfolding any_below
any-and-not zero p r s slot b at = refl
any-and-not (suc n) p r s slot b at =
    ap (λ x. x || ((p n && not (r n)) && nat_eq (slot n) s)) (any-and-not n p r s slot b at)
    ∙ step (any_below n (λ i. p i && nat_eq (slot i) s)) (p n) (r n) b (nat_eq (slot n) s) (at n)
  where
    step : (a x y b t : Bool) → (t ≡ true → y ≡ b) → ((a && not b) || ((x && not y) && t)) ≡ ((a || (x && t)) && not b)
    step a x y b true at = rw (at refl) (both a x b)
      where
        both : (a x b : Bool) → ((a && not b) || ((x && not b) && true)) ≡ ((a || (x && true)) && not b)
        both a x b = grind (arith, common_steps)
    step true true y b false at = last (not b) (not y)
      where
        last : (a c : Bool) → (a || (c && false)) ≡ a
        last a c = grind (arith, common_steps)
    step true false y b false at = or-false (not b)
    step false true y b false at = last (not y)
      where
        last : (a : Bool) → (false || (a && false)) ≡ (false && not b)
        last a = grind (arith, common_steps)
    step false false y b false at = refl

-- other rows wait
room-on : (n : ℕ) (rows : Rows) (dues : Dues) (waiting : Sum) (soonest : ℕ) → HasRoom n rows dues → IsSumOf rows.entries.items n waiting
    → HasRoom n rows (record dues { waiting = waiting; soonest = soonest })
room-on n rows dues waiting soonest room sum = grind arith

-- a wheel where nothing waits
pub nothing-waits : (rows : Rows) (dues : Dues) (waiting : Sum) (soonest c quiet : ℕ) (policy : Policy) (turns : Bool) → HasRoom (length rows.entries.items) rows dues
    → waiting.rows ≡ 0 → ((slot : ℕ) → has_bit waiting.slots slot ≡ false) → waiting.cost ≡ 0
    → ((row : ℕ) → row < length rows.entries.items → RowStandsAt rows dues c row)
    → (c < quiet → (dues.always.rows ≡ 0) × ((row : ℕ) → row < length rows.entries.items
    → Exists (get_or rows.entries.items row no_entry) (get_or rows.nexts.items row 0) → quiet ≤ get_or rows.nexts.items row 0))
    → IsTurned (record { policy = policy; turns = turns; quiet = quiet; cycle = c; rows = rows; dues = record dues { waiting = waiting; soonest = soonest } })
nothing-waits rows dues waiting soonest c quiet policy turns room none slots cost stands later = record {
  room = room-on (length rows.entries.items) rows dues waiting soonest room (record {
    below = λ row in'. absurd (both_ways (has_bit waiting.rows row) (has_bit-empty waiting.rows row none) in');
    slots = λ slot.
        slots slot
        ∙ sym (any-none (length rows.entries.items))
        ∙ any-same (length rows.entries.items) (λ _. false) (λ row. has_bit waiting.rows row && nat_eq (slot_at rows.entries.items row) slot)
        (λ row below. ap (λ b. b && nat_eq (slot_at rows.entries.items row) slot) (sym (has_bit-empty waiting.rows row none)));
    cost = cost ∙ sym (ap (cost_below rows.entries.items (length rows.entries.items)) none ∙ cost-none rows.entries.items (length rows.entries.items));
  });
  each = λ row below. (grind (arith, below, has_bit-empty, both_ways));
  quiet_is = λ less. record { none_waiting = none; none_always = (later less).0; none_coming = (later less).1 };
}

-- a wheel that has nothing to release in its cycle, when nothing is released
pub quiet-released : (w : Wheel) → IsTurned w → w.cycle < w.quiet → IsReleased (has_bit w.dues.waiting.slots) w
quiet-released w t less =
    releasing-end (has_bit w.dues.waiting.slots) 0 w
    (releasing-from 0 w t (λ row in'. absurd (both_ways (has_bit 0 row) (has_bit-none row) in'))
    (λ row below _ off exists same. let later = (t.quiet_is less).none_coming row below exists in omega arith))
    refl

-- the wheel after a cycle in which all was planned
pub turned-all : (before : ℕ → Bool) (w : Wheel) (waiting : Sum) (quiet soonest : ℕ) → IsReleased before w → waiting ≡ record { rows = 0; slots = 0; cost = 0 }
    → (w.cycle + 1 < quiet → w.dues.always.rows ≡ 0)
    → ((c : ℕ) → w.cycle + 1 ≤ c → c < quiet → get_or w.rows.places.items (c % 64) 0 ≡ 0)
    → IsTurned (record w { cycle = w.cycle + 1; quiet = quiet; dues = record w.dues { waiting = waiting; soonest = soonest } })
turned-all before w waiting quiet soonest released none never empty =
    nothing-waits w.rows w.dues waiting soonest (w.cycle + 1) quiet w.policy w.turns released.room (ap (λ s. s.rows) none)
    (λ slot. ap (λ s. has_bit s.slots slot) none ∙ has_bit-none slot) (ap (λ s. s.cost) none) (λ row within. (released.each row within).0)
    (λ later. (grind (arith, has_bit-empty, both_ways, cases_lt)))

-- the wheel after a cycle in which nothing was pending
pub turned-quiet : (w : Wheel) (slots : ℕ) → IsTurned w → w.cycle < w.quiet → slots ≡ 0
    → IsTurned (record w { cycle = w.cycle + 1; dues = record w.dues { waiting = record w.dues.waiting { slots = slots } } })
turned-quiet w slots t less none =
    let quiet = t.quiet_is less in
    let cost = ap (cost_below w.rows.entries.items (length w.rows.entries.items)) quiet.none_waiting ∙ cost-none w.rows.entries.items (length w.rows.entries.items) in
    nothing-waits w.rows w.dues (record w.dues.waiting { slots = slots }) w.dues.soonest (w.cycle + 1) w.quiet w.policy w.turns t.room quiet.none_waiting
    (λ slot. ap (λ m. has_bit m slot) none ∙ has_bit-none slot) (t.room.waiting.cost ∙ cost)
    (λ row below. ((quiet-released w t less).each row below).0) (λ later. (quiet.none_always, quiet.none_coming))

-- nothing is pending in it
pub quiet-slots : (w : Wheel) (slot : ℕ) → IsTurned w → w.cycle < w.quiet
    → (has_bit w.dues.waiting.slots slot || has_bit w.dues.always.slots slot) ≡ false
quiet-slots w slot t less =
    let n = length w.rows.entries.items in
    let quiet = t.quiet_is less in
    let none : (set' : ℕ) → set' ≡ 0 → any_below n (λ row. has_bit set' row && nat_eq (slot_at w.rows.entries.items row) slot) ≡ false
    = λ set' empty. any-same n (λ row. has_bit set' row && nat_eq (slot_at w.rows.entries.items row) slot) (λ _. false)
    (λ row below. ap (λ b. b && nat_eq (slot_at w.rows.entries.items row) slot) (has_bit-empty set' row empty)) ∙ any-none n in
    ap (λ b. b || has_bit w.dues.always.slots slot) (t.room.waiting.slots slot ∙ none w.dues.waiting.rows quiet.none_waiting)
    ∙ t.room.always.slots slot ∙ none w.dues.always.rows quiet.none_always

pub quiet-cost : (w : Wheel) → IsTurned w → w.cycle < w.quiet → w.dues.waiting.cost + w.dues.always.cost ≡ 0
quiet-cost w t less = grind (arith, cost-none)

module _ (ranking : Ranking) (pending window : ℕ) (w : Wheel) (ready : IsWheelReady ranking pending w) where
  abbrev E : List Placed
  E = w.rows.entries.items

  abbrev N : ℕ
  N = length w.rows.entries.items

  abbrev plan : Planning
  plan = planning_of ranking window w.cycle pending

  abbrev test : ℕ → Bool
  test row = has_bit w.dues.waiting.rows row || has_bit w.dues.always.rows row

  abbrev dues : ℕ → Due
  dues row = due_of_row ranking.policy (get_or w.rows.entries.items row no_entry) (last_of w row)

  abbrev before : ℕ → Bool
  before = has_bit pending

  due-of : (row : ℕ) → row < N → IsDueOf ranking.policy before w.cycle (get_or w.rows.entries.items row no_entry) (if test row then Some (dues row) else None)
  due-of row within = (ready.released.each row within).1.due ranking.policy

  are : AreDues plan w.cycle before E test dues
  are = record { of = due-of; slot = λ row. refl; cost = λ row. refl }

  test-within : (row : ℕ) → test row ≡ true → row < N
  test-within row in' =
      ⊎_elim
      (λ (one : has_bit w.dues.waiting.rows row ≡ true). ready.released.room.waiting.below row one)
      (λ (other : has_bit w.dues.always.rows row ≡ true). ready.released.room.always.below row other)
      (or_cases (has_bit w.dues.waiting.rows row) (has_bit w.dues.always.rows row) in')

  -- what a row of the set has to send
  pending-of : (row : ℕ) → test row ≡ true → IsPending ranking.policy before w.cycle (get_or w.rows.entries.items row no_entry) (dues row)
  pending-of row in' = grind (arith, due-of, test-within)

  range-of : (row : ℕ) → row < N → IsInRange (get_or w.rows.entries.items row no_entry)
  range-of row within = ready.released.room.in_range row within

  sends-in : (row : ℕ) → test row ≡ true → sends_of w.cycle (slot_at E row) (get_or w.rows.entries.items row no_entry) ≡ true
  sends-in row in' =
      let is = pending-of row in' in
      sends-test w.cycle (slot_at E row) (get_or w.rows.entries.items row no_entry) is.number (range-of row (test-within row in')) refl is.sends

  pub distinct : (due : ℕ) → ((row : ℕ) → has_bit due row ≡ test row) → AreOfDistinctSlots E due
  distinct due rows one other in_one in_other same =
      let first = sym (rows one) ∙ in_one in
      let second = sym (rows other) ∙ in_other in
      one-row ranking.placed E w.cycle (slot_at E other) one other ready.well ready.of_ranking.same (test-within one first) (test-within other second)
      (ap (λ s. sends_of w.cycle s (get_or w.rows.entries.items one no_entry)) (sym same) ∙ sends-in one first) (sends-in other second)

  pub below : (due : ℕ) → ((row : ℕ) → has_bit due row ≡ test row) → IsBelow N due
  below due rows row in' = test-within row (sym (rows row) ∙ in')

  apart : (row : ℕ) → has_bit w.dues.waiting.rows row ≡ true → has_bit w.dues.always.rows row ≡ false
  apart row in' = (ready.released.each row (ready.released.room.waiting.below row in')).1.apart in'

  pub cost-of : (due : ℕ) → ((row : ℕ) → has_bit due row ≡ test row) → w.dues.waiting.cost + w.dues.always.cost ≡ cost_below E N due
  cost-of due rows =
      let both = cost-both E N w.dues.waiting.rows w.dues.always.rows due apart rows in
      omega arith

  -- the slots that have an instance pending
  pub slots-of : (slot : ℕ) → (has_bit w.dues.waiting.slots slot || has_bit w.dues.always.slots slot) ≡ any_below N (λ row. test row && nat_eq (slot_at E row) slot)
  slots-of slot =
      ap (λ b. b || has_bit w.dues.always.slots slot) (ready.released.room.waiting.slots slot)
      ∙ ap (λ b. any_below N (λ row. has_bit w.dues.waiting.rows row && nat_eq (slot_at E row) slot) || b) (ready.released.room.always.slots slot)
      ∙ any-or N (has_bit w.dues.waiting.rows) (has_bit w.dues.always.rows) (λ row. nat_eq (slot_at E row) slot)

  -- all of it, in key order
  all-of : IsLineTo plan w.cycle before E test dues ready.well ready.of_ranking.same are N
  all-of = line-to plan w.cycle before E test dues ready.well ready.of_ranking.same are N (omega arith)

  whole-of : IsWholeLine plan w.cycle before all-of.line
  whole-of =
      whole_line-of plan w.cycle pending E all-of.line ready.well ready.of_ranking.same ready.valid
      (rw (take_all N E (omega arith)) at all-of.found)

  all-fitting : (mask : ℕ) → mask < 2 ^ most_slots → ((slot : ℕ) → has_bit mask slot ≡ (has_bit w.dues.waiting.slots slot || has_bit w.dues.always.slots slot))
      → w.dues.waiting.cost + w.dues.always.cost ≤ window → IsAllFitting plan w.cycle before mask (w.dues.waiting.cost + w.dues.always.cost)
  all-fitting mask small made fits =
      let other = ready.released.room.always.cost in
      let both = sum_where-or N (has_bit w.dues.waiting.rows) (has_bit w.dues.always.rows) (cost_at E) apart in
      grind (arith, all-of, whole-of, slots-of, below)

  -- where all fits
  pub planned-all : (mask : ℕ) → mask < 2 ^ most_slots → ((slot : ℕ) → has_bit mask slot ≡ (has_bit w.dues.waiting.slots slot || has_bit w.dues.always.slots slot))
      → w.dues.waiting.cost + w.dues.always.cost ≤ window → (next : ℕ) → next ≡ 0 → IsPlanned plan w.cycle before mask (w.dues.waiting.cost + w.dues.always.cost) next
  planned-all mask small made fits next none =
      all-planned plan w.cycle before mask (w.dues.waiting.cost + w.dues.always.cost) next (all-fitting mask small made fits) none

  -- a slot has a row of the set exactly where it is pending
  whole-pending : (line : List Due) (slot : ℕ) → slot < most_slots → IsWholeLine plan w.cycle before line
      → list_any (has_slot slot) line ≡ pending_in plan.placed w.cycle before slot
  whole-pending line slot known whole =
      same-test (list_any (has_slot slot) line) (pending_in plan.placed w.cycle before slot)
      (λ found.
      let one = instance-with slot line (slots-contain slot line found) in
      let in' = All-contains (IsDueIn plan w.cycle before) line one.due whole.each one.stands in
      ap (pending_in plan.placed w.cycle before) (sym one.value) ∙ in'.pending)
      (λ waiting. whole.all slot known waiting)

  -- what is taken of a line of all that is pending, and what is left of the rows
  module _ (line : List Due) (whole : IsWholeLine plan w.cycle before line) (due left mask width next : ℕ)
      (rows : (row : ℕ) → has_bit due row ≡ test row)
      (left_is : (row : ℕ) → has_bit left row ≡ (has_bit due row && not (has_bit mask (slot_at w.rows.entries.items row))))
      (mask_of : IsSetOf mask (taken_of ranking.fill window line)) (width_of : width ≡ cost_of (taken_of ranking.fill window line))
      (fits : width ≤ window) (small : next < 2 ^ most_slots)
      (made : (slot : ℕ) → has_bit next slot ≡ ((has_bit w.dues.waiting.slots slot || has_bit w.dues.always.slots slot) && not (has_bit mask slot)))
    where
      split : IsSplit plan w.cycle before (taken_of ranking.fill window line) (left_of ranking.fill window line)
      split = split-of plan w.cycle before line ranking.fill refl whole

      slots-left : IsSlotsOf E N left next
      slots-left slot =
          made slot
          ∙ ap (λ b. b && not (has_bit mask slot)) (slots-of slot)
          ∙ sym (any-and-not N test (λ row. has_bit mask (slot_at E row)) slot (slot_at E) (has_bit mask slot)
          (λ row same. ap (has_bit mask) (eqb-true (slot_at E row) slot same)))
          ∙ any-same N (λ row. (test row && not (has_bit mask (slot_at E row))) && nat_eq (slot_at E row) slot)
          (λ row. has_bit left row && nat_eq (slot_at E row) slot)
          (λ row below. ap (λ b. b && nat_eq (slot_at E row) slot) (sym (left_is row ∙ ap (λ b. b && not (has_bit mask (slot_at E row))) (rows row))))

      left-test : (row : ℕ) → has_bit left row ≡ true → test row ≡ true
      left-test row in' = grind (arith, and_parts)

      pending-left : (slot : ℕ) → slot < most_slots → has_bit next slot ≡ left_after plan w.cycle before slot
      pending-left slot known = grind (arith, slots-of, all-of, whole-pending, whole-of, split)

      -- none that is left is in its last cycle
      module _ (soonest cost : ℕ) (time : AreInTime w left soonest) (cost_is : cost ≡ cost_below w.rows.entries.items (length w.rows.entries.items) left)
        where
          -- a row that is left may be sent in the next cycle
          record IsHeldOn (row : ℕ) : Type 0 where
            number : ℕ
            sends : MaySend (get_or w.rows.entries.items row no_entry) number (w.cycle + 1)
            earlier : release_of (get_or w.rows.entries.items row no_entry) number < w.cycle + 1
            last : get_or w.rows.lasts.items row 0 + 1 ≡ deadline_of (get_or w.rows.entries.items row no_entry) number

          last-of-left : (row : ℕ) → has_bit left row ≡ true → last_of w row ≡ get_or w.rows.lasts.items row 0
          last-of-left row in' = ap (λ b. if b then w.cycle else get_or w.rows.lasts.items row 0) (time.not_always row in')

          held-on : (row : ℕ) → has_bit left row ≡ true → IsHeldOn row
          held-on row in' =
              let is = pending-of row (left-test row in') in
              let sends = is.sends in
              let last : get_or w.rows.lasts.items row 0 + 1 ≡ deadline_of (get_or w.rows.entries.items row no_entry) is.number
              = ap (λ n. n + 1) (sym (last-of-left row in')) ∙ is.is.last in
              grind (arith, last)

          none-missed-now : HasNoMissIn plan w.cycle before
          none-missed-now slot known =
              false_from_ne_true (is_missed_in plan w.cycle before slot) (λ missed.
              let parts = and_parts (left_after plan w.cycle before slot) (is_last_in plan.placed w.cycle slot) missed in
              let one = one-below N (λ row. has_bit left row && nat_eq (slot_at E row) slot) (sym (slots-left slot) ∙ pending-left slot known ∙ parts.0) in
              let row = one.row in
              let both = and_parts (has_bit left row) (nat_eq (slot_at E row) slot) one.passes in
              let in' = due_in-of plan w.cycle before (get_or w.rows.entries.items row no_entry) (dues row) ready.well
              (stands-in ranking.placed E row no_entry ready.of_ranking.same one.within) (pending-of row (left-test row both.0)) in
              let last = last-of-left row both.0 in
              let not_last : is_last_in plan.placed w.cycle slot ≡ false
              = ap (is_last_in plan.placed w.cycle) (sym (eqb-true (slot_at E row) slot both.1)) ∙ last-is plan w.cycle before (dues row) in'
              ∙ ne_eqb (last_of w row + 1) (w.cycle + 1) (λ same. omega arith) in
              both_ways (is_last_in plan.placed w.cycle slot) not_last parts.1)

          planned-some : IsPlanned plan w.cycle before mask width next
          planned-some = record {
            planned = planned-set plan w.cycle before (taken_of ranking.fill window line) (left_of ranking.fill window line) split mask mask_of;
            width_is = width_of ∙ sym (planned-width plan w.cycle before (taken_of ranking.fill window line) (left_of ranking.fill window line) split);
            fits = fits;
            left = set_of-from_slots most_slots next (left_after plan w.cycle before) small pending-left;
            none_missed = none-missed-now;
          }

          waits-on : (row : ℕ) → row < N → (b : Bool) → has_bit left row ≡ b
              → b ≡ (has_bit next (slot_at E row) && is_held_in (w.cycle + 1) (get_or w.rows.entries.items row no_entry))
          waits-on row within true is =
              let held = held-on row is in
              let p = get_or w.rows.entries.items row no_entry in
              sym (and_from (has_bit next (slot_at E row)) (is_held_in (w.cycle + 1) p)
              (slots-left (slot_at E row)
              ∙ any-found N row (λ other. has_bit left other && nat_eq (slot_at E other) (slot_at E row)) within
              (and_from (has_bit left row) (nat_eq (slot_at E row) (slot_at E row)) is (eq-eqb (slot_at E row) (slot_at E row) refl)))
              (held-is p (w.cycle + 1) held.number (range-of row within) held.sends ∙ lt-ltb (release_of p held.number) (w.cycle + 1) held.earlier))
          waits-on row within false is =
              let p = get_or w.rows.entries.items row no_entry in
              sym (false_from_ne_true (has_bit next (slot_at E row) && is_held_in (w.cycle + 1) p) (λ both.
              let parts = and_parts (has_bit next (slot_at E row)) (is_held_in (w.cycle + 1) p) both in
              let one = one-below N (λ other. has_bit left other && nat_eq (slot_at E other) (slot_at E row)) (sym (slots-left (slot_at E row)) ∙ parts.0) in
              let in' = and_parts (has_bit left one.row) (nat_eq (slot_at E one.row) (slot_at E row)) one.passes in
              let own = held-parts (instance_of p (w.cycle + 1)) p (w.cycle + 1) parts.1 in
              let other = held-on one.row in'.0 in
              let same : row ≡ one.row
              = one-row ranking.placed E (w.cycle + 1) (slot_at E row) row one.row ready.well ready.of_ranking.same within one.within
              (sends-test (w.cycle + 1) (slot_at E row) p own.0 (range-of row within) refl (MaySend-from_instance p own.0 (w.cycle + 1) own.1))
              (grind (arith, common_steps, sends-test, range-of, eqb-true)) in
              both_ways (has_bit left row) is (ap (has_bit left) same ∙ in'.0)))

          last-on : (row : ℕ) → row < N → has_bit left row ≡ true → (k : ℕ) → MaySend (get_or w.rows.entries.items row no_entry) k (w.cycle + 1)
              → get_or w.rows.lasts.items row 0 + 1 ≡ deadline_of (get_or w.rows.entries.items row no_entry) k
          last-on row within in' k sends =
              let p = get_or w.rows.entries.items row no_entry in
              let held = held-on row in' in
              let same : held.number ≡ k
              = grind (arith, same_Some, instance_of-sent) in
              held.last ∙ ap (deadline_of p) same

          -- the wheel after it
          abbrev after : Wheel
          after = record w {
            quiet = 0;
            cycle = w.cycle + 1;
            dues = record w.dues { waiting = record { rows = left; slots = next; cost = cost }; soonest = soonest };
          }

          turned-some : IsTurned after
          turned-some = grind (arith, room-on, below, slots-left, waits-on, last-on)

          pub some-on : IsPlannedOn ranking window pending w after mask width
          some-on = record { planned = planned-some; next = refl; turned = turned-some; table = record { entries = refl; others = refl } }

  -- a row whose instance is the one that is kept
  row-of : (due : Due) → IsDueIn plan w.cycle before due → IsOneOf dues test due
  row-of due in' =
      let found : any_below N (λ row. test row && nat_eq (slot_at E row) due.slot) ≡ true
      = sym (all-of.slots due.slot) ∙ whole-pending all-of.line due.slot in'.known whole-of ∙ in'.pending in
      let one = one-below N (λ row. test row && nat_eq (slot_at E row) due.slot) found in
      let parts = and_parts (test one.row) (nat_eq (slot_at E one.row) due.slot) one.passes in
      let own = due_in-of plan w.cycle before (get_or w.rows.entries.items one.row no_entry) (dues one.row) ready.well
      (stands-in ranking.placed E one.row no_entry ready.of_ranking.same one.within) (pending-of one.row parts.0) in
      grind (arith, same_Some, eqb-true)

  -- all that is pending, in key order, is a line of the rows
  whole-line : (due : ℕ) → ((row : ℕ) → has_bit due row ≡ test row) → IsLineOfRows dues (has_bit due) all-of.line
  whole-line due rows =
      line_of-rows dues (has_bit due) all-of.line
      (λ one other in_one in_other same. distinct due rows one other in_one in_other same)
      (λ k d within.
      let one = row-of (get_or all-of.line k d) (whole-of.each k d within) in
      record { row = one.row; stands = rows one.row ∙ one.stands; is = one.is })
      whole-of.lined whole-of.distinct
      (λ row in'.
      all-of.slots (slot_at E row)
      ∙ any-found N row (λ other. test other && nat_eq (slot_at E other) (slot_at E row)) (below due rows row in')
      (and_from (test row) (nat_eq (slot_at E row) (slot_at E row)) (sym (rows row) ∙ in') (eq-eqb (slot_at E row) (slot_at E row) refl)))

  -- what is taken of the rows in an order that is key order
  part-of : (goes : ℕ → ℕ → Bool)
      → ((one other : ℕ) → one < length w.rows.entries.items → other < length w.rows.entries.items → goes one other ≡ true → is_due_by (dues one) (dues other) ≡ true)
      → (due left mask width : ℕ) → ((row : ℕ) → has_bit due row ≡ test row)
      → IsTook ranking.fill window goes w.rows.entries.items due left mask width → IsPart plan before w left mask width
  part-of goes ordered due left mask width rows took =
      let of : AreOfRows E goes dues = record { slot = λ row. refl; cost = λ row. refl; ordered = ordered } in
      record {
        line = all-of.line;
        whole = whole-of;
        due = due;
        due_is = rows;
        left_is = took.left_is;
        mask_is = took.mask_is dues all-of.line of (whole-line due rows);
        width_is = took.width_is dues all-of.line of (whole-line due rows);
        fits = took.fits;
        cost = let all = cost-of due rows in let parts = took.cost in omega arith;
      }

  pub part-by-row : (due left mask width : ℕ) → ((row : ℕ) → has_bit due row ≡ test row)
      → IsTook ranking.fill window nat_le w.rows.entries.items due left mask width → w.policy ≢ Edf → IsPart plan before w left mask width
  part-by-row due left mask width rows took order =
      let order_of : ranking.policy ≢ Edf = λ same. order (ready.of_ranking.policy ∙ same) in
      part-of nat_le (by-rank ranking.policy E (last_of w) order_of ready.of_ranking.order) due left mask width rows took

  pub part-by-last : (due left mask width : ℕ) → ((row : ℕ) → has_bit due row ≡ test row)
      → IsTook ranking.fill window (goes_by (last_of w)) w.rows.entries.items due left mask width → w.policy ≡ Edf → IsPart plan before w left mask width
  part-by-last due left mask width rows took order =
      let policy : Edf ≡ ranking.policy = sym order ∙ ready.of_ranking.policy in
      let P : Policy → Type 0 = λ policy. AreRanked policy E in
      let Q : Policy → Type 0 = λ policy. (one other : ℕ) → one < N → other < N → goes_by (last_of w) one other ≡ true
      → is_due_by (due_of_row policy (get_or w.rows.entries.items one no_entry) (last_of w one)) (due_of_row policy (get_or w.rows.entries.items other no_entry) (last_of w other)) ≡ true in
      part-of (goes_by (last_of w)) (subst Q policy (by-last E (last_of w) (subst P (sym policy) ready.of_ranking.order))) due left mask width rows took

  -- none of the rows is over
  pub are-due : (due : ℕ) → ((row : ℕ) → has_bit due row ≡ test row) → AreDue w due
  are-due due rows = record {
    known = λ row in'. sym (rows row) ∙ in';
    in_time = λ row in'. in-time row in' (pending-of row (or_left (has_bit w.dues.waiting.rows row) (has_bit w.dues.always.rows row) in'));
    apart = apart;
    soonest_is = λ row in'. (ready.released.each row (ready.released.room.waiting.below row in')).1.soonest_is in';
  }
    where
      in-time : (row : ℕ) → has_bit w.dues.waiting.rows row ≡ true → IsPending ranking.policy before w.cycle (get_or w.rows.entries.items row no_entry) (dues row)
          → w.cycle ≤ get_or w.rows.lasts.items row 0
      in-time row in' is = grind (arith, common_steps)
