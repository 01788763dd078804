-- A slot waits exactly where one of its instances does.
use Rattle.std.proofs.Common.{◌≡◌, ℕ, zero, suc, ◌+◌, ◌<◌, Bool, true, false, not, ◌↔◌, Option, Some, IsSomeAnd, List, Contains, is_some, refl, sym, ap, ◌∙◌, ⊎_elim, arith}
use Rattle.std.proofs.lemmas.Bool.{and_from, and_parts, both_ways, cases_lt, eq-eqb, not-true, or_cases}
use Rattle.std.proofs.lemmas.Option.{get_or_from_slice_get, slice_get_within}
use Rattle.std.proofs.lemmas.List.Folds.{list_any-from_Any}
use Rattle.requirement_table.specs.declared.entries.Placed.{Placed}
use Rattle.requirement_table.specs.Flags.{HasWaiting, HasWaitingBefore, IsGoodCycle, waits}
use Rattle.requirement_table.specs.Instance.{Instance, IsReleasedIn, release_of}
use Rattle.requirement_table.specs.Table.{IsWellPlaced, held_before, instance_in, releases_in}
use Rattle.requirement_table.proofs.FlaggedOnce.{before-suc, held_next, or_left, or_right, release-in}
use Rattle.requirement_table.proofs.Found.{found-in, found-of}
use Rattle.requirement_table.proofs.Latest.{released_by-released}

-- the instances that slots hold before the first cycle
abbrev pub AreHeld : List Placed → ℕ → (ℕ → Bool) → Type 0
AreHeld placed from held =
    (slot : ℕ) → held slot ≡ true → IsSomeAnd (instance_in placed slot from) (λ i. release_of i.placed i.number < from)

-- what is known of one of them
record IsHeldOne (placed : List Placed) (from slot : ℕ) : Type 0 where
  instance : Instance
  found : instance_in placed slot from ≡ Some instance
  before : release_of instance.placed instance.number < from

held-one : (o : Option Instance) (placed : List Placed) (from slot : ℕ) → instance_in placed slot from ≡ o
    → IsSomeAnd o (λ i. release_of i.placed i.number < from) → IsHeldOne placed from slot
held-one o placed from slot found before = grind arith

-- an entry that releases an instance in a cycle makes its slot one that has a release in it
releases-of : (placed : List Placed) (p : Placed) (k c slot : ℕ) → IsWellPlaced placed → Contains placed p → p.entry.slot ≡ slot
    → IsReleasedIn p k c → releases_in placed c slot ≡ true
releases-of placed p k c slot well stands of_slot released = grind (arith, released_by-released, is_some, and_from, eq-eqb, list_any-from_Any)

module _ (placed : List Placed) (flags : ℕ → ℕ → Bool) (from : ℕ) (held : ℕ → Bool) (well : IsWellPlaced placed) where
  -- an instance that waits in a cycle, in which its slot is not flagged, waits before the next one
  next-before : (n slot : ℕ) → IsGoodCycle placed flags from held n → waits placed flags from held n slot ≡ true
      → flags (from + n) slot ≡ false → HasWaiting placed flags from held (from + n) slot
      → HasWaitingBefore placed flags from held (from + suc n) slot
  next-before n slot good waiting unsent has = grind (arith, found-of, eq-eqb, both_ways, cases_lt)

  -- a slot that waits has an instance that does, where one that holds an instance before the cycle has
  sound-within : (n slot : ℕ) → (held_before placed flags from held n slot ≡ true → HasWaitingBefore placed flags from held (from + n) slot)
      → waits placed flags from held n slot ≡ true → HasWaiting placed flags from held (from + n) slot
  sound-within n slot sound waiting =
      ⊎_elim
      (λ (before : held_before placed flags from held n slot ≡ true).
      let has = sound before in
      record { entry = has.entry; number = has.number; of_slot = has.of_slot; waiting = has.waiting })
      (λ (now : releases_in placed (from + n) slot ≡ true).
      let one = release-in placed slot (from + n) well now in
      record {
        entry = one.entry;
        number = one.number;
        of_slot = one.of_slot;
        waiting = grind (arith, slice_get_within, get_or_from_slice_get);
      })
      (or_cases (held_before placed flags from held n slot) (releases_in placed (from + n) slot) waiting)

  sound-start : AreHeld placed from held → (slot : ℕ) → held slot ≡ true → HasWaitingBefore placed flags from held (from + 0) slot
  sound-start valid slot holds =
      let one = held-one (instance_in placed slot from) placed from slot refl (valid slot holds) in
      let i = one.instance in
      let found = found-in placed slot from i well one.found in
      grind arith

  before-zero : (slot : ℕ) → held_before placed flags from held 0 slot ≡ held slot
  unfolding held_before
  before-zero slot = refl

  sound-before : AreHeld placed from held → (n : ℕ) → ((m : ℕ) → m < n → IsGoodCycle placed flags from held m)
      → (slot : ℕ) → held_before placed flags from held n slot ≡ true → HasWaitingBefore placed flags from held (from + n) slot
  sound-before valid zero good slot test = sound-start valid slot (sym (before-zero slot) ∙ test)
  sound-before valid (suc n) good slot test =
      let parts = and_parts (waits placed flags from held n slot) (not (flags (from + n) slot))
      (sym (before-suc placed flags from held n slot) ∙ test) in
      next-before n slot (good n (omega arith)) parts.0 (not-true (flags (from + n) slot) parts.1)
      (sound-within n slot (sound-before valid n (λ m less. good m (omega arith)) slot) parts.0)

  complete-within : (n slot : ℕ) → (HasWaitingBefore placed flags from held (from + n) slot → held_before placed flags from held n slot ≡ true)
      → HasWaiting placed flags from held (from + n) slot → waits placed flags from held n slot ≡ true
  complete-within n slot complete has = grind (arith, or_left, or_right, releases-of, cases_lt)

  complete-before : (n slot : ℕ) → HasWaitingBefore placed flags from held (from + n) slot → held_before placed flags from held n slot ≡ true
  complete-before zero slot has = grind (arith, before-zero)
  complete-before (suc n) slot has =
      let one = has.waiting in
      let unsent : flags (from + n) slot ≡ false
      = ap (λ s. flags (from + n) s) (sym has.of_slot) ∙ one.unsent (from + n) (omega arith) (omega arith) (omega arith) in
      let here : HasWaiting placed flags from held (from + n) slot
      = grind arith in
      before-suc placed flags from held n slot
      ∙ held_next (held_before placed flags from held n slot) (releases_in placed (from + n) slot) (flags (from + n) slot)
      (complete-within n slot (complete-before n slot) here) unsent

pub waiting-before : (placed : List Placed) (flags : ℕ → ℕ → Bool) (from n : ℕ) (held : ℕ → Bool) → IsWellPlaced placed → AreHeld placed from held
    → ((m : ℕ) → m < n → IsGoodCycle placed flags from held m) → (slot : ℕ)
    → (held_before placed flags from held n slot ≡ true) ↔ HasWaitingBefore placed flags from held (from + n) slot
waiting-before placed flags from n held well valid good slot = grind (arith, sound-before, complete-before)

pub waiting-within : (placed : List Placed) (flags : ℕ → ℕ → Bool) (from n : ℕ) (held : ℕ → Bool) → IsWellPlaced placed → AreHeld placed from held
    → ((m : ℕ) → m < n → IsGoodCycle placed flags from held m) → (slot : ℕ)
    → (waits placed flags from held n slot ≡ true) ↔ HasWaiting placed flags from held (from + n) slot
waiting-within placed flags from n held well valid good slot = grind (arith, sound-within, sound-before, complete-within, complete-before)
