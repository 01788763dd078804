-- Which instances a slot holds in a cycle of a kept table, and that each of them is flagged once.
use Rattle.std.proofs.Common.{◌≡◌, ℕ, zero, suc, ◌+◌, ◌-◌, ◌<◌, ◌≤◌, ◌⊎◌, max, Bool, true, false, not, ◌&&◌, ◌||◌, nat_eq, Option, Some, List, Contains, is_some, refl, sym, ap, ◌∙◌, ⊎_elim, inl, inr, arith}
use Rattle.std.proofs.Math.Nat.{max-le}
use Rattle.std.proofs.lemmas.Option.{same_Some}
use Rattle.std.proofs.lemmas.Bool.{cases_lt, cases_order, cases_Bool, eq-eqb, eqb-true, and_parts, and_from, not-true, or_cases, or_left, or_right}
use Rattle.std.proofs.lemmas.List.Elements.{All-contains}
use Rattle.std.proofs.lemmas.List.Folds.{Any-from_list_any, list_any-from_Any}
use Rattle.requirement_table.specs.declared.entries.Placed.{Placed}
use Rattle.requirement_table.specs.Flags.{IsFlaggedOnce, IsGoodCycle, waits}
use Rattle.requirement_table.specs.Instance.{Exists, Instance, IsLastCycle, IsReleasedIn, MaySend, deadline_of, release_of, released_by}
use Rattle.bit_sets.specs.Sets.{most_slots}
use Rattle.requirement_table.specs.Table.{IsInRange, IsWellPlaced, held_before, instance_in, is_last_in, releases_in}
use Rattle.requirement_table.proofs.Shared.{found-in, found-of, released_by-released}
use Rattle.plan_check.specs.PlanKept.{HasPending, IsOwed, IsOwedIn}

pub before-suc : (placed : List Placed) (flags : ℕ → ℕ → Bool) (from : ℕ) (held : ℕ → Bool) (n slot : ℕ)
    → held_before placed flags from held (suc n) slot
    ≡ ((held_before placed flags from held n slot || releases_in placed (from + n) slot) && not (flags (from + n) slot))
unfolding held_before
before-suc placed flags from held n slot = refl

pub before-zero : (placed : List Placed) (flags : ℕ → ℕ → Bool) (from : ℕ) (held : ℕ → Bool) (slot : ℕ)
    → held_before placed flags from held 0 slot ≡ held slot
unfolding held_before
before-zero placed flags from held slot = refl

-- An instance that is released in a cycle

record IsRelease (placed : List Placed) (slot c : ℕ) : Type 0 where
  entry : Placed
  number : ℕ
  stands : Contains placed entry
  in_range : IsInRange entry
  of_slot : entry.entry.slot ≡ slot
  released : IsReleasedIn entry number c

number-in : (o : Option ℕ) → is_some o ≡ true → (k : ℕ) × (o ≡ Some k)
number-in o is = grind arith

release-in : (placed : List Placed) (slot c : ℕ) → IsWellPlaced placed → releases_in placed c slot ≡ true → IsRelease placed slot c
release-in placed slot c well test =
    let any = Any-from_list_any (λ q. nat_eq q.entry.slot slot && is_some (released_by q c)) placed test in
    grind (arith, and_parts, is_some, number-in, eqb-true)

-- the slot releases an instance in the cycle of its release
pub releases-own : (placed : List Placed) (p : Placed) (k : ℕ) → IsWellPlaced placed → Contains placed p → Exists p (release_of p k)
    → releases_in placed (release_of p k) p.entry.slot ≡ true
releases-own placed p k well stands exists = grind (arith, released_by-released, list_any-from_Any, is_some, and_from, eq-eqb)

-- an instance that the slot releases is the one that may be sent
pub released-one : (placed : List Placed) (slot c : ℕ) → IsWellPlaced placed → releases_in placed c slot ≡ true
    → (i : Instance) × (instance_in placed slot c ≡ Some i) × (release_of i.placed i.number ≡ c)
released-one placed slot c well test =
    let r = release-in placed slot c well test in
    let release = r.released.release in
    let exists : Exists r.entry (release_of r.entry r.number) = rw release r.released.exists in
    let sends : MaySend r.entry r.number c = record { exists = exists; released = omega arith; in_time = omega arith } in (
      record { placed = r.entry; number = r.number },
      ap (λ s. instance_in placed s c) (sym r.of_slot) ∙ found-of placed r.entry r.number c well r.stands sends,
      release,
    )

-- in its last cycle an instance is the one that is found there
last-is : (placed : List Placed) (p : Placed) (k c slot : ℕ) → IsWellPlaced placed → Contains placed p → p.entry.slot ≡ slot → MaySend p k c
    → deadline_of p k ≡ c + 1 → is_last_in placed c slot ≡ true
last-is placed p k c slot well stands of_slot sends due = grind (arith, found-of, eq-eqb)

-- two instances of one slot that may be sent in one cycle have one release
one-release : (placed : List Placed) (p q : Placed) (k m c slot : ℕ) → IsWellPlaced placed → Contains placed p → Contains placed q
    → p.entry.slot ≡ slot → q.entry.slot ≡ slot → MaySend p k c → MaySend q m c → release_of p k ≡ release_of q m
one-release placed p q k m c slot well stands also of_slot other_slot sends other =
    let one : Instance = record { placed = p; number = k } in
    let two : Instance = record { placed = q; number = m } in
    let same : Some one ≡ Some two
    = sym (found-of placed p k c well stands sends) ∙ ap (λ s. instance_in placed s c) (of_slot ∙ sym other_slot) ∙ found-of placed q m c well also other in
    ap (λ i. release_of i.placed i.number) (same_Some one two same)

pub max-below : (a b k : ℕ) → a ≤ k → b ≤ k → max a b ≤ k
max-below a b k left right = max-le {a = a} {b = b} {k = k} left right

-- The first cycle that passes a test

record IsFirst (p : ℕ → Bool) (b end : ℕ) : Type 0 where
  place : ℕ
  after : b ≤ place
  before : place < end
  passes : p place ≡ true
  none : (i : ℕ) → b ≤ i → i < place → p i ≡ true → ⊥

first-in : (p : ℕ → Bool) (j b end : ℕ) → b + j ≡ end → IsFirst p b end ⊎ ((i : ℕ) → b ≤ i → i < end → p i ≡ true → ⊥)
first-in p zero b end is = inr (λ i after before _. omega arith)
first-in p (suc j) b end is =
    ⊎_elim
    (λ (f : IsFirst p b (b + j)).
    inl (record { place = f.place; after = f.after; before = omega arith; passes = f.passes; none = f.none }))
    (λ (none : (i : ℕ) → b ≤ i → i < b + j → p i ≡ true → ⊥).
    ⊎_elim
    (λ (here : p (b + j) ≡ true). inl (record { place = b + j; after = omega arith; before = omega arith; passes = here; none = none }))
    (λ (not_here : p (b + j) ≡ false). grind (arith, cases_lt))
    (cases_Bool (p (b + j))))
    (first-in p j b (b + j) refl)

-- A table, the slots that are pending before a cycle, and flags

-- an instance that the slot holds in the n-th cycle: it is to be sent, may be sent in this cycle, and was not flagged
-- before it
pub record IsHolder (placed : List Placed) (flags : ℕ → ℕ → Bool) (from : ℕ) (pending : ℕ → Bool) (n slot : ℕ) : Type 0 where
  pub owing : IsOwedIn placed from pending (from + n) slot
  pub unsent : (c : ℕ) → from ≤ c → release_of owing.entry owing.number ≤ c → c < from + n → flags c slot ≡ true → ⊥

module _ (placed : List Placed) (flags : ℕ → ℕ → Bool) (from : ℕ) (pending : ℕ → Bool) (well : IsWellPlaced placed) where
  holder-released : (n slot : ℕ) → releases_in placed (from + n) slot ≡ true → IsHolder placed flags from pending n slot
  holder-released n slot test =
      let r = release-in placed slot (from + n) well test in
      record {
        owing = grind arith;
        unsent = λ c after released before flagged. omega arith;
      }

  holder-pending : (slot : ℕ) → HasPending placed from pending → pending slot ≡ true → IsHolder placed flags from pending 0 slot
  holder-pending slot valid waiting =
      let held = valid slot waiting in
      let i = held.instance in
      let found = found-in placed slot from i well held.found in
      grind arith

  -- an instance that is not sent in a good cycle is held in the next one
  holder-next : (n slot : ℕ) → slot < most_slots → IsGoodCycle placed flags from pending n → waits placed flags from pending n slot ≡ true
      → flags (from + n) slot ≡ false → IsHolder placed flags from pending n slot → IsHolder placed flags from pending (suc n) slot
  holder-next n slot known good waiting unflagged holder =
      let p = holder.owing.entry in
      let k = holder.owing.number in
      let released = holder.owing.sends.released in
      let in_time = holder.owing.sends.in_time in
      ⊎_elim
      (λ (more : from + n + 1 < deadline_of p k).
      record {
        owing = record {
          entry = p;
          number = k;
          owed = holder.owing.owed;
          of_slot = holder.owing.of_slot;
          sends = record { exists = holder.owing.sends.exists; released = omega arith; in_time = omega arith };
        };
        unsent = grind (arith, cases_lt);
      })
      (λ (last : deadline_of p k ≤ from + n + 1).
      let due = last-is placed p k (from + n) slot well holder.owing.owed.stands holder.owing.of_slot holder.owing.sends (omega arith) in
      let sent = good.in_time slot known waiting due in
      absurd (cc))
      (cases_lt (from + n + 1) (deadline_of p k))

  holder-waits : (n slot : ℕ) → (held_before placed flags from pending n slot ≡ true → IsHolder placed flags from pending n slot)
      → waits placed flags from pending n slot ≡ true → IsHolder placed flags from pending n slot
  holder-waits n slot held waiting =
      ⊎_elim
      (λ (before : held_before placed flags from pending n slot ≡ true). held before)
      (λ (now : releases_in placed (from + n) slot ≡ true). holder-released n slot now)
      (or_cases (held_before placed flags from pending n slot) (releases_in placed (from + n) slot) waiting)

  holder-before : (n slot : ℕ) → slot < most_slots → HasPending placed from pending → ((m : ℕ) → m < n → IsGoodCycle placed flags from pending m)
      → held_before placed flags from pending n slot ≡ true → IsHolder placed flags from pending n slot
  holder-before zero slot known valid good held = holder-pending slot valid (sym (before-zero placed flags from pending slot) ∙ held)
  holder-before (suc n) slot known valid good held =
      let parts = and_parts (waits placed flags from pending n slot) (not (flags (from + n) slot)) (sym (before-suc placed flags from pending n slot) ∙ held) in
      holder-next n slot known (good n (omega arith)) parts.0 (not-true (flags (from + n) slot) parts.1)
      (holder-waits n slot (λ before. holder-before n slot known valid (λ m below. good m (omega arith)) before) parts.0)

  -- after good cycles, a slot that waits holds an instance that is to be sent
  pub holder-of : (n slot : ℕ) → slot < most_slots → HasPending placed from pending → ((m : ℕ) → m < n → IsGoodCycle placed flags from pending m)
      → waits placed flags from pending n slot ≡ true → IsHolder placed flags from pending n slot
  holder-of n slot known valid good waiting = holder-waits n slot (λ before. holder-before n slot known valid good before) waiting

  -- a slot that waits goes on waiting until it is flagged
  waits-on : (j b n slot : ℕ) → b + j ≡ n → waits placed flags from pending b slot ≡ true
      → ((m : ℕ) → b ≤ m → m < n → flags (from + m) slot ≡ true → ⊥) → waits placed flags from pending n slot ≡ true
  waits-on zero b n slot is waiting unsent = let same : n ≡ b = omega arith in rw same waiting
  waits-on (suc j) b n slot is waiting unsent =
      let next : n ≡ suc (b + j) = omega arith in
      let before = waits-on j b (b + j) slot refl waiting (λ m after low flagged. unsent m after (omega arith) flagged) in
      grind (arith, or_left, before-suc, and_from, not_flagged)
    where
      not_flagged : (b : Bool) → (b ≡ true → ⊥) → not b ≡ true
      not_flagged true wrong = absurd (wrong refl)
      not_flagged false wrong = refl

  -- an instance that is to be sent and was not flagged makes its slot wait
  pub waits-of : (p : Placed) (k n : ℕ) → IsOwed placed from pending p k → release_of p k ≤ from + n
      → ((c : ℕ) → from ≤ c → release_of p k ≤ c → c < from + n → flags c p.entry.slot ≡ true → ⊥)
      → waits placed flags from pending n p.entry.slot ≡ true
  waits-of p k n owed released unsent =
      ⊎_elim
      (λ (early : release_of p k < from).
      waits-on n 0 n p.entry.slot (omega arith)
      (grind (arith, or_left, before-zero))
      (λ m after low flagged. unsent (from + m) (omega arith) (omega arith) (omega arith) flagged))
      (λ (later : from ≤ release_of p k).
      let b = release_of p k - from in
      let at : from + b ≡ release_of p k = omega arith in
      waits-on (n - b) b n p.entry.slot (omega arith)
      (or_right (held_before placed flags from pending b p.entry.slot) (releases_in placed (from + b) p.entry.slot)
      (rw at (releases-own placed p k well owed.stands owed.exists)))
      (λ m after low flagged. unsent (from + m) (omega arith) (omega arith) (omega arith) flagged))
      (cases_lt (release_of p k) from)

  sends-in : (p : Placed) (k last c : ℕ) → IsOwed placed from pending p k → IsLastCycle p k last → release_of p k ≤ c → c ≤ last → MaySend p k c
  sends-in p k last c owed is_last released before = record { exists = owed.exists; released = released; in_time = omega arith }

  -- *Plan kept*, its first part: where all cycles are good each instance that is to be sent is flagged once
  pub flagged-once : (p : Placed) (k last : ℕ) → HasPending placed from pending → ((m : ℕ) → IsGoodCycle placed flags from pending m)
      → IsOwed placed from pending p k → IsLastCycle p k last → IsFlaggedOnce flags p.entry.slot (max from (release_of p k)) last
  flagged-once p k last valid good owed is_last =
      let slot = p.entry.slot in
      let range = All-contains IsInRange placed p well.in_range owed.stands in
      let known = range.entry.slot in
      let in_time = owed.in_time in
      let begin = max from (release_of p k) in
      ⊎_elim
      (λ (f : IsFirst (λ c. flags c slot) begin (last + 1)).
      let after = f.after in
      let before = f.before in
      record {
        cycle = f.place;
        after = f.after;
        before = omega arith;
        flagged = f.passes;
        alone = λ other behind not_after flagged.
            ⊎_elim
            (λ (same : other ≡ f.place). same)
            (⊎_elim
            (λ (sooner : other < f.place). absurd (f.none other behind sooner flagged))
            (λ (later : f.place < other).
            let n = other - from in
            let at : other ≡ from + n = omega arith in
            let here : flags (from + n) slot ≡ true = rw at at flagged in
            let holder = holder-of n slot known valid (λ m low. good m) ((good n).holding slot known here) in
            let mine = sends-in p k last (from + n) owed is_last (omega arith) (omega arith) in
            let release = one-release placed p holder.owing.entry k holder.owing.number (from + n) slot well owed.stands holder.owing.owed.stands refl
            holder.owing.of_slot mine holder.owing.sends in
            absurd (holder.unsent f.place (omega arith) (omega arith) (omega arith) f.passes)))
            (cases_order other f.place);
      })
      (λ (none : (i : ℕ) → begin ≤ i → i < last + 1 → flags i slot ≡ true → ⊥).
      let n = last - from in
      let waiting = waits-of p k n owed (omega arith)
      (λ c behind released low flagged. none c (max-below from (release_of p k) c behind released) (omega arith) flagged) in
      let sends = sends-in p k last (from + n) owed is_last (omega arith) (omega arith) in
      let due = last-is placed p k (from + n) slot well owed.stands refl sends (omega arith) in
      let sent = (good n).in_time slot known waiting due in
      absurd (none (from + n) (max-below from (release_of p k) (from + n) (omega arith) (omega arith)) (omega arith) sent))
      (first-in (λ c. flags c slot) (last + 1 - begin) begin (last + 1) (omega arith))
