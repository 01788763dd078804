-- Releases that are made row by row.
use Rattle.std.proofs.Common.{◌≡◌, ◌≢◌, ℕ, ◌+◌, ◌-◌, ◌%◌, ◌^◌, ◌<◌, ◌&&◌, ◌||◌, not, Bool, true, false, nat_eq, None, get_or, length, refl, sym, ap, subst, ◌∙◌, arith}
use Rattle.std.proofs.lemmas.Grind.{common_steps}
use Rattle.std.proofs.Math.Bool.{and-false, or-false}
use Rattle.std.proofs.lemmas.Bool.{and_parts, both_ways, eq-eqb, eqb-true}
use Rattle.std.proofs.lemmas.List.{get_or-set_other, get_or-set_same}
use Rattle.std.proofs.Math.ListN.{length-set}
use Rattle.std.proofs.Math.Nat.{mod-lt}
use Rattle.requirement_table.specs.declared.entries.Placed.{Placed}
use Rattle.requirement_table.specs.Instance.{Exists, exists, release_of}
use Rattle.bit_sets.specs.Sets.{has_bit}
use Rattle.requirement_table.specs.Table.{IsInRange}
use Rattle.requirement_table.proofs.Shared.{Exists-from_test, exists-true}
use Rattle.release_wheel.specs.declared.dues.Dues.{Dues}
use Rattle.release_wheel.specs.declared.rows.Rows.{Rows}
use Rattle.release_wheel.specs.declared.wheel.Wheel.{Wheel}
use Rattle.release_wheel.specs.Wheel.{HasRoom, IsAlways, IsNextRelease, IsOnWheel, IsReleased, IsReleasing, IsRowBegun, IsRowReleased, IsSameBut, IsTurned, ReleasedAt, TurnedAt, is_found, is_there, no_entry}
use Rattle.release_wheel.proofs.RowDues.{due-stay, first-release, next-after, not-held, stands-later}
use Rattle.bit_sets.proofs.Shared.{has_bit-none}
use Rattle.release_wheel.proofs.RowSteps.{by-row, other-row, released-other, there-is, turned-other}
use Rattle.release_wheel.proofs.RowSums.{sum-with}

-- a set without one row
abbrev pub IsWithout : ℕ → ℕ → ℕ → Type 0
IsWithout row rest less = (i : ℕ) → has_bit less i ≡ (not (nat_eq row i) && has_bit rest i)

rest-of : (row rest less : ℕ) → IsWithout row rest less → (i : ℕ) → has_bit less i ≡ true → has_bit rest i ≡ true
rest-of row rest less made i in' = (and_parts (not (nat_eq row i)) (has_bit rest i) (sym (made i) ∙ in')).1

other-of : (row rest less : ℕ) → IsWithout row rest less → (i : ℕ) → has_bit less i ≡ true → nat_eq row i ≡ false
other-of row rest less made i in' = turn (nat_eq row i) (and_parts (not (nat_eq row i)) (has_bit rest i) (sym (made i) ∙ in')).0
  where
    turn : (b : Bool) → not b ≡ true → b ≡ false
    turn b wrong = grind arith

out-of : (row rest less : ℕ) → IsWithout row rest less → (i : ℕ) → has_bit less i ≡ false → nat_eq row i ≡ false → has_bit rest i ≡ false
out-of row rest less made i out apart = ap (λ b. not b && has_bit rest i) (sym apart) ∙ sym (made i) ∙ out

-- a row without a release in the cycle
pub stay-at : (rows : Rows) (dues : Dues) (before : ℕ → Bool) (c row : ℕ) → IsInRange (get_or rows.entries.items row no_entry)
    → TurnedAt rows dues before c row
    → (has_bit dues.always.rows row ≡ false → Exists (get_or rows.entries.items row no_entry) (get_or rows.nexts.items row 0) → get_or rows.nexts.items row 0 ≢ c)
    → ReleasedAt rows dues before c row
stay-at rows dues before c row range turned apart =
    let p = get_or rows.entries.items row no_entry in
    let next = get_or rows.nexts.items row 0 in (
      stands-later c p (has_bit dues.always.rows row) next (is_found rows next row) turned.0 apart,
      due-stay before c p (has_bit dues.waiting.rows row) (has_bit dues.always.rows row) next (get_or rows.lasts.items row 0) dues.soonest
          (is_found rows next row) range turned.0 turned.1 apart,
    )

module _ (before : ℕ → Bool) (c rest less row : ℕ) (rows : Rows) (dues : Dues) (g : IsReleasing before c rest rows dues)
    (stands' : has_bit rest row ≡ true) (made : IsWithout row rest less) (within : row < length rows.entries.items) where
  -- the row is looked at, and the others are as they were
  step : (new : Rows) (more : Dues) → length new.entries.items ≡ length rows.entries.items → IsSameBut row rows new dues more
      → HasRoom (length new.entries.items) new more → ReleasedAt new more before c row → IsReleasing before c less new more
  step new more size but room here = record {
    room = room;
    place = λ i in'. but.place (c % 64) i (mod-lt c (omega arith)) (other-of row rest less made i in') ∙ g.place i (rest-of row rest less made i in');
    later = grind (arith, turned-other, other-of, rest-of);
    made = λ i below out.
        by-row (λ j. ReleasedAt new more before c j) row i here
        (λ other. released-other row rows new dues more but i other before c
        (g.made i (subst (λ n. i < n) size below) (out-of row rest less made i out other)));
  }

  same : IsSameBut row rows rows dues dues
  same = record {
    entry = λ i other. refl;
    next = λ i other. refl;
    last = λ i other. refl;
    place = λ k i below other. refl;
    waiting = λ i other. refl;
    always = λ i other. refl;
    sooner = omega arith;
  }

  -- the row has no release in this cycle
  pub stay : get_or rows.nexts.items row 0 ≢ c → IsReleasing before c less rows dues
  stay apart = step rows dues refl same g.room (stay-at rows dues before c row (g.room.in_range row within) (g.later row within stands') (λ _ _. apart))

  -- in this cycle it has one
  module _ (now : get_or rows.nexts.items row 0 ≡ c) where
    abbrev P : Placed
    P = get_or rows.entries.items row no_entry

    range : IsInRange P
    range = g.room.in_range row within

    here-less : c % 64 < 64
    here-less = mod-lt c (omega arith)

    on : IsOnWheel (length rows.entries.items) row (c % 64) (get_or rows.nexts.items row 0) P (has_bit dues.always.rows row)
    on = g.room.on_wheel (c % 64) row here-less (g.place row stands')

    next : IsNextRelease P c (get_or rows.nexts.items row 0)
    next = (g.later row within stands').0.next_is on.off

    is-release : c ≡ release_of P next.number
    is-release = sym now ∙ next.is

    not-waiting : has_bit dues.waiting.rows row ≡ false
    not-waiting = grind (arith, not-held, next, range, is-release, and-false)

    -- at no other place does the row stand
    gone : (k : ℕ) → k < 64 → (has_bit (get_or rows.places.items k 0) row && not (is_there (c % 64) row k row)) ≡ false
    gone k below = pick (has_bit (get_or rows.places.items k 0) row) refl
      where
        pick : (b : Bool) → has_bit (get_or rows.places.items k 0) row ≡ b → (b && not (is_there (c % 64) row k row)) ≡ false
        pick b is = grind (arith, there-is)

    -- its first release, where it has an instance in each cycle from then on
    module _ (new : Rows) (more : Dues) (begun : IsRowBegun P row c rows new dues more) (period : P.entry.period ≡ 1) (live : P.end ≡ None) where
      entries-begun : new.entries.items ≡ rows.entries.items
      entries-begun = ap (λ r. r.entries.items) begun.rows

      nexts-begun : new.nexts.items ≡ rows.nexts.items
      nexts-begun = ap (λ r. r.nexts.items) begun.rows

      lasts-begun : new.lasts.items ≡ rows.lasts.items
      lasts-begun = ap (λ r. r.lasts.items) begun.rows

      waiting-begun : more.waiting ≡ dues.waiting
      waiting-begun = ap (λ d. d.waiting) begun.others

      soonest-begun : more.soonest ≡ dues.soonest
      soonest-begun = ap (λ d. d.soonest) begun.others

      always-here : has_bit more.always.rows row ≡ true
      always-here = begun.added.rows row ∙ ap (λ b. b || has_bit dues.always.rows row) (eq-eqb row row refl)

      but-begun : IsSameBut row rows new dues more
      but-begun = grind (arith, entries-begun, next, nexts-begun, lasts-begun, waiting-begun, same, soonest-begun)

      is-always : IsAlways P c
      is-always = record { period = period; live = live; since = let first = first-release P next.number in let at = is-release in omega arith }

      room-begun : HasRoom (length new.entries.items) new more
      room-begun =
          let size = ap length entries-begun in
          record {
            within = omega arith;
            few = rw entries-begun g.room.few;
            nexts = rw (entries-begun, nexts-begun) g.room.nexts;
            lasts = rw (entries-begun, lasts-begun) g.room.lasts;
            places = begun.size ∙ g.room.places;
            in_range = rw entries-begun g.room.in_range;
            waiting = rw (entries-begun, waiting-begun) g.room.waiting;
            always = rw entries-begun (sum-with rows.entries.items (length rows.entries.items) row dues.always more.always within on.off begun.added g.room.always);
            on_wheel = λ k i below in'.
                by-row (λ j. has_bit (get_or new.places.items k 0) j ≡ true
                → IsOnWheel (length new.entries.items) j k (get_or new.nexts.items j 0) (get_or new.entries.items j no_entry) (has_bit more.always.rows j)) row i
                (λ here. absurd (both_ways (has_bit (get_or new.places.items k 0) row) (begun.places k row below ∙ gone k below) here))
                (λ other there. grind (arith, but-begun)) in';
          }

      here-begun : ReleasedAt new more before c row
      here-begun =
          let always : IsAlways P (c + 1) = record { period = period; live = live; since = let since = is-always.since in omega arith } in (
            rw (ap (λ xs. get_or xs row no_entry) entries-begun, always-here) (grind (arith, on)),
            rw (ap (λ xs. get_or xs row no_entry) entries-begun, waiting-begun, always-here, ap (λ xs. get_or xs row 0) lasts-begun, soonest-begun)
                (due-stay before c P (has_bit dues.waiting.rows row) true 0 (get_or rows.lasts.items row 0) dues.soonest false range
                (record { next_is = λ wrong. absurd (cc); on = λ wrong. absurd (cc); always_is = λ _. is-always }) (g.later row within stands').1
                (λ wrong. absurd (cc))),
          )

      pub begin : IsReleasing before c less new more
      begin = step new more (ap length entries-begun) but-begun room-begun here-begun

    -- its release, which waits from now on
    module _ (new : Rows) (more : Dues) (done : IsRowReleased P row c rows new dues more) (near : c < 2 ^ 42) where
      coming : ℕ
      coming = c + P.entry.period

      ending : ℕ
      ending = c + P.entry.deadline - 1

      waiting-here : has_bit more.waiting.rows row ≡ true
      waiting-here = done.added.rows row ∙ ap (λ b. b || has_bit dues.waiting.rows row) (eq-eqb row row refl)

      always-same : more.always ≡ dues.always
      always-same = ap (λ d. d.always) done.others

      moved-other : (k i : ℕ) → k < 64 → nat_eq row i ≡ false → has_bit (get_or new.places.items k 0) i ≡ has_bit (get_or rows.places.items k 0) i
      unfolding coming
      moved-other k i below other = grind (arith, coming, and-false, or-false)

      moved-here : (k : ℕ) → k < 64 → has_bit (get_or new.places.items k 0) row ≡ (exists P coming && is_there (coming % 64) row k row)
      unfolding coming
      moved-here k below = grind (arith, coming, gone)

      next-here : get_or new.nexts.items row 0 ≡ coming
      unfolding coming
      next-here = grind (arith, get_or-set_same, coming)

      last-here : get_or new.lasts.items row 0 ≡ ending
      unfolding ending
      last-here = grind (arith, get_or-set_same, ending)

      but-released : IsSameBut row rows new dues more
      unfolding coming ending
      but-released = grind (arith, next, get_or-set_other, coming, other-row, ending, moved-other, always-same, same)

      entry-here : get_or new.entries.items row no_entry ≡ P
      entry-here = ap (λ xs. get_or xs row no_entry) done.moved.entries

      -- where the row stands at a place, its next release comes there
      on-here : (k : ℕ) → k < 64 → has_bit (get_or new.places.items k 0) row ≡ true
          → IsOnWheel (length new.entries.items) row k (get_or new.nexts.items row 0) (get_or new.entries.items row no_entry) (has_bit more.always.rows row)
      on-here k below in' = grind (arith, common_steps, and_parts, coming, moved-here, entry-here, always-same, next-here, eqb-true, on)

      room-released : HasRoom (length new.entries.items) new more
      room-released =
          let size = ap length done.moved.entries in
          record {
            within = omega arith;
            few = rw done.moved.entries g.room.few;
            nexts = ap length done.moved.nexts ∙ length-set rows.nexts.items row (c + P.entry.period) ∙ g.room.nexts ∙ sym size;
            lasts = ap length done.moved.lasts ∙ length-set rows.lasts.items row (c + P.entry.deadline - 1) ∙ g.room.lasts ∙ sym size;
            places = done.moved.size ∙ g.room.places;
            in_range = rw done.moved.entries g.room.in_range;
            waiting = rw done.moved.entries
                (sum-with rows.entries.items (length rows.entries.items) row dues.waiting more.waiting within not-waiting done.added g.room.waiting);
            always = rw (done.moved.entries, always-same) g.room.always;
            on_wheel = λ k i below in'.
                by-row (λ j. has_bit (get_or new.places.items k 0) j ≡ true
                → IsOnWheel (length new.entries.items) j k (get_or new.nexts.items j 0) (get_or new.entries.items j no_entry) (has_bit more.always.rows j)) row i
                (on-here k below)
                (λ other there. grind (arith, but-released, moved-other)) in';
          }

      here-released : ReleasedAt new more before c row
      unfolding coming ending
      here-released = (grind (arith, entry-here, always-same, next-here, next-after, range, next, on, moved-here, coming, mod-lt, exists-true, there-is, both_ways, waiting-here, last-here, ending, is-release))

      pub release : IsReleasing before c less new more
      release = step new more (ap length done.moved.entries) but-released room-released here-released

-- before a row is looked at, where no other row has a release
pub releasing-from : (rest : ℕ) (w : Wheel) → IsTurned w → ((row : ℕ) → has_bit rest row ≡ true → is_found w.rows w.cycle row ≡ true)
    → ((row : ℕ) → row < length w.rows.entries.items → has_bit rest row ≡ false → has_bit w.dues.always.rows row ≡ false
    → Exists (get_or w.rows.entries.items row no_entry) (get_or w.rows.nexts.items row 0) → get_or w.rows.nexts.items row 0 ≢ w.cycle)
    → IsReleasing (has_bit w.dues.waiting.slots) w.cycle rest w.rows w.dues
releasing-from rest w t place apart = record {
  room = t.room;
  place = place;
  later = λ row below _. t.each row below;
  made = λ row below out. stay-at w.rows w.dues (has_bit w.dues.waiting.slots) w.cycle row (t.room.in_range row below) (t.each row below) (apart row below out);
}

pub releasing-start : (rest : ℕ) (w : Wheel) → IsTurned w → rest ≡ get_or w.rows.places.items (w.cycle % 64) 0
    → IsReleasing (has_bit w.dues.waiting.slots) w.cycle rest w.rows w.dues
releasing-start rest w t is =
    releasing-from rest w t (λ row in'. ap (λ m. has_bit m row) (sym is) ∙ in')
    (λ row below out off exists same. grind (arith, both_ways, same, on))

-- when all rows are looked at
pub releasing-end : (before : ℕ → Bool) (rest : ℕ) (w : Wheel) → IsReleasing before w.cycle rest w.rows w.dues → rest ≡ 0 → IsReleased before w
releasing-end before rest w g none = grind (arith, has_bit-none)

pub row-within : (before : ℕ → Bool) (c rest row : ℕ) (rows : Rows) (dues : Dues) → IsReleasing before c rest rows dues → has_bit rest row ≡ true
    → row < length rows.entries.items
row-within before c rest row rows dues g in' = (g.room.on_wheel (c % 64) row (mod-lt c (omega arith)) (g.place row in')).within
