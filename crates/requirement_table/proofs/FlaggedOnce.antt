-- Each instance of a table that is kept so far is flagged exactly once, from its release to its last cycle.
use Rattle.std.proofs.Common.{◌≡◌, ℕ, zero, suc, ◌+◌, ◌-◌, ◌<◌, ◌≤◌, Bool, true, false, not, ◌&&◌, ◌||◌, nat_eq, Option, Some, List, Contains, is_some, slice_get, get_or, length, refl, sym, ap, ◌∙◌, ⊎_elim, arith}
use Rattle.std.proofs.lemmas.Option.{slice_get-get_or, slice_get_within, get_or_from_slice_get, same_Some}
use Rattle.std.proofs.lemmas.Bool.{cases_lt, cases_order, eq-eqb, eqb-true, and_parts, and_from}
use Rattle.std.proofs.lemmas.List.Folds.{Any-from_list_any, list_any-from_Any}
use Rattle.requirement_table.specs.declared.entries.Placed.{Placed}
use Rattle.requirement_table.specs.Instance.{Exists, IsLastCycle, IsReleasedIn, MaySend, release_of, released_by}
use Rattle.bit_sets.specs.Sets.{most_slots}
use Rattle.requirement_table.specs.Table.{IsInRange, IsWellPlaced, held_before, is_last_in, releases_in}
use Rattle.requirement_table.specs.Flags.{IsFlaggedOnce, IsGoodCycle, waits}
use Rattle.requirement_table.proofs.SlotInstances.{instance_in-found, one_instance}
use Rattle.requirement_table.proofs.Latest.{released_by-released}

-- a slot that was not held, and has no release, is not held
not_held : (b r f : Bool) → b ≡ false → r ≡ false → (b || r) && not f ≡ false
not_held b r f none nothing = rw (none, nothing) refl

pub held_next : (b r f : Bool) → b || r ≡ true → f ≡ false → (b || r) && not f ≡ true
held_next b r f waiting unsent = rw (waiting, unsent) refl

sent_next : (b r f : Bool) → f ≡ true → (b || r) && not f ≡ false
sent_next b r f sent = rw sent (elim (b || r) as (λ v. v && not true ≡ false) [ true ↦ refl | false ↦ refl ])

pub or_left : (b r : Bool) → b ≡ true → b || r ≡ true
or_left b r holds = rw holds refl

pub or_right : (b r : Bool) → r ≡ true → b || r ≡ true
or_right b r holds = rw holds (elim b as (λ v. v || true ≡ true) [ true ↦ refl | false ↦ refl ])

none_or : (b r : Bool) → b ≡ false → r ≡ false → b || r ≡ false
none_or b r none nothing = rw (none, nothing) refl

pub before-suc : (placed : List Placed) (flags : ℕ → ℕ → Bool) (from : ℕ) (held : ℕ → Bool) (n slot : ℕ)
    → held_before placed flags from held (suc n) slot
    ≡ ((held_before placed flags from held n slot || releases_in placed (from + n) slot) && not (flags (from + n) slot))
unfolding held_before
before-suc placed flags from held n slot = refl

-- an instance that is released in a cycle may be sent in it
sends-released : (q : Placed) (m c : ℕ) → 1 ≤ q.entry.deadline → IsReleasedIn q m c → MaySend q m c
sends-released q m c some released = grind arith

-- what is asked of an instance: it stands in the list, exists, and this is its last cycle
record IsOne (placed : List Placed) (p : Placed) (k last : ℕ) : Type 0 where
  place : ℕ
  stands : slice_get placed place ≡ Some p
  exists : Exists p (release_of p k)
  is_last : IsLastCycle p k last

place-of : (placed : List Placed) (p : Placed) (i : ℕ) → i < length placed → get_or placed i p ≡ p → slice_get placed i ≡ Some p
place-of placed p i within at = slice_get-get_or placed i p within ∙ ap (λ q. Some q) at

number-in : (o : Option ℕ) → is_some o ≡ true → (k : ℕ) × (o ≡ Some k)
number-in o is = grind arith

-- an entry of the list, of this slot, releases an instance in a cycle
pub record IsRelease (placed : List Placed) (slot c : ℕ) : Type 0 where
  pub place : ℕ
  pub number : ℕ
  pub entry : Placed
  pub stands : slice_get placed place ≡ Some entry
  pub of_slot : entry.entry.slot ≡ slot
  pub released : IsReleasedIn entry number c
  pub sends : MaySend entry number c

pub release-in : (placed : List Placed) (slot c : ℕ) → IsWellPlaced placed → releases_in placed c slot ≡ true → IsRelease placed slot c
release-in placed slot c well test =
    let any = Any-from_list_any (λ q. nat_eq q.entry.slot slot && is_some (released_by q c)) placed test in
    grind (arith, and_parts, slot, is_some, number-in, place-of, eqb-true, sends-released)

range-of : (placed : List Placed) (p : Placed) (i : ℕ) → IsWellPlaced placed → slice_get placed i ≡ Some p → IsInRange p
range-of placed p i well stands = grind (arith, get_or_from_slice_get, slice_get_within)

sends-until : (p : Placed) (k last c : ℕ) → Exists p (release_of p k) → IsLastCycle p k last → release_of p k ≤ c → c ≤ last → MaySend p k c
sends-until p k last c exists is_last after before = record { exists = exists; released = after; in_time = omega arith }

-- no other instance of the slot is released from behind the release to the last cycle
quiet : (placed : List Placed) (p : Placed) (k last c : ℕ) → IsWellPlaced placed → IsOne placed p k last
    → release_of p k < c → c ≤ last → releases_in placed c p.entry.slot ≡ false
quiet placed p k last c well one after before =
    only_false (releases_in placed c p.entry.slot) (λ test.
    let other = release-in placed p.entry.slot c well test in
    let mine = sends-until p k last c one.exists one.is_last (omega arith) before in
    let same = one_instance placed well one.place other.place k other.number c p other.entry one.stands other.stands (sym other.of_slot)
    mine other.sends in
    let equal : p ≡ other.entry = same_Some p other.entry (sym one.stands ∙ ap (slice_get placed) same.0 ∙ other.stands) in
    let release : release_of p k ≡ c = ap (λ q. release_of q k) equal ∙ ap (release_of other.entry) same.1 ∙ other.released.release in
    omega arith)
  where
    only_false : (b : Bool) → (b ≡ true → ⊥) → b ≡ false
    only_false b wrong = grind arith

-- in its last cycle the instance is the one that is found there
last-is : (placed : List Placed) (p : Placed) (k last : ℕ) → IsWellPlaced placed → IsOne placed p k last
    → is_last_in placed last p.entry.slot ≡ true
last-is placed p k last well one =
    let range = range-of placed p one.place well one.stands in
    grind (arith, sends-until, instance_in-found, eq-eqb)

released-is : (placed : List Placed) (p : Placed) (k last : ℕ) → IsWellPlaced placed → IsOne placed p k last
    → releases_in placed (release_of p k) p.entry.slot ≡ true
released-is placed p k last well one =
    let range = range-of placed p one.place well one.stands in
    let found = released_by-released p k (release_of p k) (omega arith) (record { release = refl; exists = one.exists }) in
    let test : (nat_eq p.entry.slot p.entry.slot && is_some (released_by p (release_of p k))) ≡ true
    = and_from _ _ (eq-eqb p.entry.slot p.entry.slot refl) (ap is_some found) in
    list_any-from_Any (λ q. nat_eq q.entry.slot p.entry.slot && is_some (released_by q (release_of p k))) placed
    (one.place, p, slice_get_within placed one.place p one.stands, get_or_from_slice_get placed one.place p p one.stands, test)

waits-not : (placed : List Placed) (flags : ℕ → ℕ → Bool) (from : ℕ) (held : ℕ → Bool) (m slot : ℕ) → slot < most_slots
    → IsGoodCycle placed flags from held m → waits placed flags from held m slot ≡ false → flags (from + m) slot ≡ true → ⊥
waits-not placed flags from held m slot known good none flagged = let waiting = good.holding slot known flagged in absurd (cc)

module _ (placed : List Placed) (flags : ℕ → ℕ → Bool) (from n : ℕ) (held : ℕ → Bool) (p : Placed) (k last : ℕ)
    (well : IsWellPlaced placed) (good : (m : ℕ) → m < n → IsGoodCycle placed flags from held m) (one : IsOne placed p k last)
    (within : last < from + n) where
  slot : ℕ
  slot = p.entry.slot

  known : p.entry.slot < most_slots
  known = (range-of placed p one.place well one.stands).entry.slot

  -- once nothing is held behind the release, nothing is until the last cycle
  none-held : (m j : ℕ) → release_of p k < from + m → held_before placed flags from held m p.entry.slot ≡ false → from + (m + j) ≤ last + 1
      → held_before placed flags from held (m + j) p.entry.slot ≡ false
  none-held m zero after none before = let same : m + 0 ≡ m = omega arith in rw same none
  none-held m (suc j) after none before =
      let next : m + suc j ≡ suc (m + j) = omega arith in
      rw (next, before-suc placed flags from held (m + j) p.entry.slot)
      (not_held _ _ _ (none-held m j after none (omega arith)) (quiet placed p k last (from + (m + j)) well one (omega arith) (omega arith)))

  none-flagged : (m c : ℕ) → release_of p k < from + m → held_before placed flags from held m p.entry.slot ≡ false → from + m ≤ c → c ≤ last
      → flags c p.entry.slot ≡ true → ⊥
  none-flagged m c after none behind before flagged =
      let cycle : c ≡ from + (m + (c - (from + m))) = omega arith in
      let at = m + (c - (from + m)) in
      waits-not placed flags from held at p.entry.slot known (good at (omega arith))
      (none_or _ _ (none-held m (c - (from + m)) after none (omega arith))
      (quiet placed p k last (from + at) well one (omega arith) (omega arith)))
      (sym (ap (λ x. flags x p.entry.slot) cycle) ∙ flagged)

  -- from a cycle in which the instance waits, and before which it was not flagged
  found-from : (j m : ℕ) → from + (m + j) ≡ last → release_of p k ≤ from + m → waits placed flags from held m p.entry.slot ≡ true
      → ((c : ℕ) → release_of p k ≤ c → c < from + m → flags c p.entry.slot ≡ true → ⊥)
      → (now : Bool) → flags (from + m) p.entry.slot ≡ now
      → IsFlaggedOnce flags p.entry.slot (release_of p k) last
  found-from j m ends after waiting unsent true sent = record {
    cycle = from + m;
    after = after;
    before = omega arith;
    flagged = sent;
    alone = λ other behind before flagged.
        ⊎_elim
        (λ (same : other ≡ from + m). same)
        (⊎_elim
        (λ (earlier : other < from + m). absurd (unsent other behind earlier flagged))
        (λ (later : from + m < other).
        let next : from + suc m ≤ other = omega arith in
        absurd (none-flagged (suc m) other (omega arith)
        (before-suc placed flags from held m p.entry.slot ∙ sent_next (held_before placed flags from held m p.entry.slot) (releases_in placed (from + m) p.entry.slot) _ sent) next before flagged)))
        (cases_order other (from + m));
  }
  found-from zero m ends after waiting unsent false sent =
      let at : from + m ≡ last = omega arith in
      let due = last-is placed p k last well one in
      let flagged = (good m (omega arith)).in_time p.entry.slot known waiting (rw at due) in
      absurd (cc)
  found-from (suc j) m ends after waiting unsent false sent =
      found-from j (suc m) (omega arith) (omega arith)
      (or_left _ _ (before-suc placed flags from held m p.entry.slot ∙ held_next (held_before placed flags from held m p.entry.slot) (releases_in placed (from + m) p.entry.slot) _ waiting sent))
      (λ c behind before flagged. grind (arith, slot, cases_lt))
      (flags (from + suc m) p.entry.slot) refl

  flagged_once-of : from ≤ release_of p k → IsFlaggedOnce flags p.entry.slot (release_of p k) last
  flagged_once-of after =
      let range = range-of placed p one.place well one.stands in
      let m = release_of p k - from in
      let at : from + m ≡ release_of p k = omega arith in
      found-from (last - release_of p k) m (omega arith) (omega arith)
      (or_right (held_before placed flags from held m p.entry.slot) (releases_in placed (from + m) p.entry.slot)
      (rw at (released-is placed p k last well one)))
      (λ c behind before flagged. omega arith)
      (flags (from + m) p.entry.slot) refl

pub flagged_once-holds : (placed : List Placed) (flags : ℕ → ℕ → Bool) (from n : ℕ) (held : ℕ → Bool) → IsWellPlaced placed
    → ((m : ℕ) → m < n → IsGoodCycle placed flags from held m)
    → (p : Placed) (k last : ℕ) → Contains placed p → Exists p (release_of p k) → from ≤ release_of p k
    → IsLastCycle p k last → last < from + n → IsFlaggedOnce flags p.entry.slot (release_of p k) last
flagged_once-holds placed flags from n held well good p k last stands exists after is_last within =
    flagged_once-of placed flags from n held p k last well good
    (record { place = stands.0; stands = place-of placed p stands.0 stands.1 stands.2; exists = exists; is_last = is_last }) within after
