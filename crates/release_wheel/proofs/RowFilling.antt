-- Rows that are filled in, one after the other.
use Rattle.std.proofs.Common.{◌≡◌, ℕ, suc, ◌%◌, ◌<◌, ◌≤◌, ◌&&◌, not, Bool, true, false, nat_eq, min, List, Contains, IsPermutation, get_or, length, refl, sym, ap, ◌∙◌, ⊎_elim, arith}
use Rattle.std.proofs.lemmas.Grind.{common_steps}
use Rattle.std.proofs.Math.Bool.{and-false, or-false}
use Rattle.std.proofs.lemmas.Bool.{and_from, and_parts, both_ways, eq-eqb, eqb-false, eqb-true, lt-ltb, or_cases, or_right}
use Rattle.std.proofs.lemmas.List.{get_or-set_other, get_or-set_same, take_all}
use Rattle.std.proofs.lemmas.List.Elements.{All-contains, All-contains_itself}
use Rattle.std.proofs.lemmas.List.Sorted.{All-permutation, IsPermutation-sym}
use Rattle.std.proofs.Math.ListN.{length-set}
use Rattle.std.proofs.lemmas.Nat.{mod_below}
use Rattle.requirement_table.specs.declared.entries.Placed.{Placed}
use Rattle.requirement_table.specs.Instance.{exists, release_of}
use Rattle.bit_sets.specs.Sets.{has_bit}
use Rattle.requirement_table.specs.Table.{IsInRange, IsWellPlaced}
use Rattle.requirement_table.proofs.Shared.{exists-true, found-in}
use Rattle.planner_policies.specs.Due.{is_held_in}
use Rattle.planner_policies.specs.Plan.{IsValid, Ranking}
use Rattle.planner_policies.specs.Ranked.{AreRanked}
use Rattle.planner_policies.proofs.Shared.{same-test, same-read, take-same}
use Rattle.release_wheel.specs.declared.dues.Dues.{Dues}
use Rattle.release_wheel.specs.declared.rows.Rows.{Rows}
use Rattle.release_wheel.specs.Wheel.{AreFilled, HasRoom, IsFilledTo, IsOnWheel, IsRowSet, IsSameBut, IsSlotsOf, IsSumOf, TurnedAt, any_below, is_there, no_entry, slot_at}
use Rattle.release_wheel.proofs.RowDues.{held-is}
use Rattle.bit_sets.proofs.Shared.{has_bit-none}
use Rattle.release_wheel.proofs.RowSteps.{by-row, other-row, there-is, turned-other}
use Rattle.release_wheel.proofs.RowSums.{added-here, added-other, any-found, one-below, sum-next}

module _ (list : List Placed) (n c pending : ℕ) (rows new : Rows) (dues more : Dues) (p : Placed) (f : IsFilledTo list n c pending rows dues)
    (s : IsRowSet p n c pending rows new dues more) (within : n < length rows.entries.items) (range : IsInRange p) (is : p ≡ get_or list n no_entry) where
  entry-here : get_or new.entries.items n no_entry ≡ p
  entry-here = ap (λ xs. get_or xs n no_entry) s.down.entries ∙ get_or-set_same rows.entries.items n p no_entry within

  entry-other : (i : ℕ) → nat_eq n i ≡ false → get_or new.entries.items i no_entry ≡ get_or rows.entries.items i no_entry
  entry-other i other = ap (λ xs. get_or xs i no_entry) s.down.entries ∙ get_or-set_other rows.entries.items n i p no_entry (other-row n i other)

  next-here : get_or new.nexts.items n 0 ≡ s.next
  next-here = let size = f.room.nexts in ap (λ xs. get_or xs n 0) s.down.nexts ∙ get_or-set_same rows.nexts.items n s.next 0 (omega arith)

  last-here : get_or new.lasts.items n 0 ≡ s.last
  last-here = let size = f.room.lasts in ap (λ xs. get_or xs n 0) s.down.lasts ∙ get_or-set_same rows.lasts.items n s.last 0 (omega arith)

  always-here : has_bit more.always.rows n ≡ s.begun
  always-here = added-here rows.entries.items new.entries.items n p s.begun dues.always more.always f.room.always s.always entry-here entry-other

  waiting-here : has_bit more.waiting.rows n ≡ s.waits
  waiting-here = added-here rows.entries.items new.entries.items n p s.waits dues.waiting more.waiting f.room.waiting s.waiting entry-here entry-other

  sooner : (a b c : ℕ) → c ≡ min a b → c ≤ a
  sooner a b c is = omega arith

  but-set : IsSameBut n rows new dues more
  but-set = grind (arith, entry-other, get_or-set_other, other-row, and-false, or-false, added-other, entry-here, sooner)

  -- the row that was filled in stands where its next release comes
  on-here : (k : ℕ) → k < 64 → has_bit (get_or new.places.items k 0) n ≡ true
      → IsOnWheel (suc n) n k (get_or new.nexts.items n 0) (get_or new.entries.items n no_entry) (has_bit more.always.rows n)
  on-here k below in' =
      ⊎_elim
      (λ (old : has_bit (get_or rows.places.items k 0) n ≡ true). absurd (let less = (f.room.on_wheel k n below old).within in omega arith))
      (grind (arith, and_parts, entry-here, next-here, always-here, eqb-true, turn))
      (or_cases (has_bit (get_or rows.places.items k 0) n) ((not s.begun && exists p s.next) && is_there (s.next % 64) n k n) (sym (s.down.places k n below) ∙ in'))
    where
      turn : (b : Bool) → not b ≡ true → b ≡ false
      turn b wrong = grind (arith, common_steps)

  less-of : (i : ℕ) → i < suc n → nat_eq n i ≡ false → i < n
  less-of i below other = let differ = eqb-false n i other in omega arith

  room-next : HasRoom (suc n) new more
  room-next =
      let sizes = ap length s.down.entries ∙ length-set rows.entries.items n p in
      let few = f.room.few in
      let nexts = ap length s.down.nexts ∙ length-set rows.nexts.items n s.next ∙ f.room.nexts in
      let lasts = ap length s.down.lasts ∙ length-set rows.lasts.items n s.last ∙ f.room.lasts in
      record {
        within = omega arith;
        few = omega arith;
        nexts = omega arith;
        lasts = omega arith;
        places = s.down.size ∙ f.room.places;
        in_range = λ i below. by-row (λ j. j < suc n → IsInRange (get_or new.entries.items j no_entry)) n i (λ _. rw entry-here range)
            (λ other less. rw (entry-other i other) (f.room.in_range i (less-of i less other))) below;
        waiting = sum-next rows.entries.items new.entries.items n p s.waits dues.waiting more.waiting f.room.waiting s.waiting entry-here entry-other;
        always = sum-next rows.entries.items new.entries.items n p s.begun dues.always more.always f.room.always s.always entry-here entry-other;
        on_wheel = λ k i below in'.
            by-row (λ j. has_bit (get_or new.places.items k 0) j ≡ true
            → IsOnWheel (suc n) j k (get_or new.nexts.items j 0) (get_or new.entries.items j no_entry) (has_bit more.always.rows j)) n i
            (on-here k below)
            (λ other there. grind (arith, but-set)) in';
      }

  here-set : TurnedAt new more (has_bit pending) c n
  here-set = grind (arith, entry-here, always-here, next-here, mod_below, exists-true, or_right, and_from, there-is, waiting-here, last-here)

  pub filled-more : IsFilledTo list (suc n) c pending new more
  filled-more = record {
    room = room-next;
    size = ap length s.down.entries ∙ length-set rows.entries.items n p ∙ f.size;
    same = grind (arith, common_steps, by-row, entry-here, entry-other, less-of);
    each = λ i below. by-row (λ j. j < suc n → TurnedAt new more (has_bit pending) c j) n i (λ _. here-set)
        (λ other less. turned-other n rows new dues more but-set i other (has_bit pending) c (f.each i (less-of i less other))) below;
  }

-- before a row is filled in
pub filled-start : (list : List Placed) (c pending : ℕ) (rows : Rows) (dues : Dues) → length list ≤ 128 → length rows.entries.items ≡ length list
    → length rows.nexts.items ≡ length list → length rows.lasts.items ≡ length list → length rows.places.items ≡ 64
    → ((k : ℕ) → k < 64 → get_or rows.places.items k 0 ≡ 0) → IsSumOf rows.entries.items 0 dues.waiting → IsSumOf rows.entries.items 0 dues.always
    → IsFilledTo list 0 c pending rows dues
filled-start list c pending rows dues few entries nexts lasts places empty waiting always = grind (arith, both_ways, has_bit-none)

-- when all rows are filled in
module _ (ranking : Ranking) (list : List Placed) (c pending : ℕ) (rows : Rows) (dues : Dues) (f : IsFilledTo list (length list) c pending rows dues)
    (well : IsWellPlaced ranking.placed) (same : IsPermutation ranking.placed list) (valid : IsValid ranking.placed c pending) where
  entries-are : rows.entries.items ≡ list
  entries-are =
      sym (take_all (length list) rows.entries.items (omega arith))
      ∙ take-same (length list) rows.entries.items list (omega arith) (omega arith)
      (λ k d below. same-read rows.entries.items k d no_entry (omega arith) ∙ f.same k below ∙ same-read list k no_entry d below)
      ∙ take_all (length list) list (omega arith)

  -- a slot that is pending has a row that waits
  slot-waits : (slot : ℕ) → has_bit pending slot ≡ true
      → any_below (length rows.entries.items) (λ row. has_bit dues.waiting.rows row && nat_eq (slot_at rows.entries.items row) slot) ≡ true
  slot-waits slot in' =
      let held = valid slot in' in
      let i = held.instance in
      let found = found-in ranking.placed slot c i well held.found in
      let stands = All-permutation-contains i.placed found.stands in
      let row = stands.0 in
      let value : get_or rows.entries.items row no_entry ≡ i.placed = f.same row stands.1 ∙ same-read list row no_entry i.placed stands.1 ∙ stands.2 in
      let held_is : is_held_in c (get_or rows.entries.items row no_entry) ≡ true
      = grind (arith, common_steps, held-is, lt-ltb) in
      any-found (length rows.entries.items) row (λ j. has_bit dues.waiting.rows j && nat_eq (slot_at rows.entries.items j) slot) (omega arith)
      (grind (arith, and_from, eq-eqb))
    where
      All-permutation-contains : (p : Placed) → Contains ranking.placed p → Contains list p
      All-permutation-contains p stands =
          All-contains (Contains list) ranking.placed p
          (All-permutation (Contains list) list ranking.placed (IsPermutation-sym ranking.placed list same) (All-contains_itself list)) stands

  slots-filled : IsSlotsOf rows.entries.items (length rows.entries.items) dues.waiting.rows pending
  slots-filled slot =
      same-test (has_bit pending slot) (any_below (length rows.entries.items) (λ row. has_bit dues.waiting.rows row && nat_eq (slot_at rows.entries.items row) slot))
      (slot-waits slot)
      (λ any.
      let one = one-below (length rows.entries.items) (λ row. has_bit dues.waiting.rows row && nat_eq (slot_at rows.entries.items row) slot) any in
      let parts = and_parts (has_bit dues.waiting.rows one.row) (nat_eq (slot_at rows.entries.items one.row) slot) one.passes in
      let waits = (f.each one.row (omega arith)).1 in
      ap (has_bit pending) (sym (eqb-true (slot_at rows.entries.items one.row) slot parts.1))
      ∙ (and_parts (has_bit pending (slot_at rows.entries.items one.row)) (is_held_in c (get_or rows.entries.items one.row no_entry))
      (sym waits.waits_is ∙ parts.0)).0)

  pub filled-whole : AreRanked ranking.policy list
      → AreFilled ranking c pending rows (record dues { waiting = record dues.waiting { slots = pending } })
  filled-whole order = grind (arith, slots-filled, entries-are)
