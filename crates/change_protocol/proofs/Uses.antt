-- What the placed entries make of each slot.
use Rattle.std.proofs.Common.{◌≡◌, ◌≢◌, ℕ, ◌+◌, ◌-◌, ◌<◌, ◌≤◌, true, false, max, if◌then◌else◌, Option, Some, None, IfSome, IsSomeAnd, is_none, option_map, List, [], ◌∷◌, ◌++◌, All, AllPairs, length, take, get_or, set, length-set, replicate, refl, sym, ◌∙◌, ⊎_elim, arith}
use Rattle.std.specs.List.{find}
use Rattle.std.specs.Option.{option_map_or, option_or}
use Rattle.std.proofs.Math.Nat.{max-zero, max-eq_right, max-le}
use Rattle.std.proofs.lemmas.Bool.{cases_Bool, cases_eq, eq-eqb, ne_eqb}
use Rattle.std.proofs.lemmas.Grind.{get_or-set_at}
use Rattle.std.proofs.lemmas.List.{get_or-set_other, get_or-replicate, get_or-take, get_or_append_left, get_or_default, get_or_push, length-take-le, length_push}
use Rattle.std.proofs.lemmas.List.Elements.{All-head, All-tail}
use Rattle.std.proofs.lemmas.List.Folds.{find-append}
use Rattle.std.proofs.lemmas.List.Recursion.{max_push}
use Rattle.requirement_table.specs.declared.entries.Placed.{Placed}
use Rattle.bit_sets.specs.Sets.{most_slots}
use Rattle.requirement_table.specs.Table.{GoesBefore, IsInRange}
use Rattle.change_protocol.specs.Applied.{freed_by, free_in, live_in, lives_in}
use Rattle.change_protocol.specs.Slots.{AreUpToLast, IsUpToLast, use_by, use_of}
use Rattle.change_protocol.proofs.WellPlaced.{lives-parts, never-free}

-- what a read of a list past its end gives
abbrev pub no_entry : Placed
no_entry = record {
  entry = record { slot = 0; node = 0; length = 0; phase = 0; period = 0; deadline = 0; priority = 0 };
  origin = 0;
  end = None;
}

pub one-less : (n : ℕ) → n ≢ 0 → n ≡ n - 1 + 1
one-less n some = grind arith

live-push : (placed : List Placed) (p : Placed) (slot : ℕ) → live_in (placed ++ p ∷ []) slot ≡ option_or (live_in placed slot) (find (lives_in slot) (p ∷ []))
live-push placed p slot = find-append (lives_in slot) placed (p ∷ [])

free-push : (placed : List Placed) (p : Placed) (slot : ℕ) → free_in (placed ++ p ∷ []) slot ≡ max (free_in placed slot) (freed_by slot p)
free-push placed p slot = max_push (λ (ps : List Placed). free_in ps slot) (freed_by slot) refl (λ x xs. refl) placed p

-- entries that all go before an entry of their slot are not live
none-live : (placed : List Placed) (p : Placed) → All (λ q. GoesBefore q p) placed → live_in placed p.entry.slot ≡ None
none-live [] p before = refl
none-live (x ∷ xs) p before =
    ⊎_elim
    (λ (yes : lives_in p.entry.slot x ≡ true).
    let parts = lives-parts p.entry.slot x yes in
    absurd (never-free x p.origin parts.1 (All-head (λ q. GoesBefore q p) x xs before parts.0)))
    (λ (no : lives_in p.entry.slot x ≡ false).
    let found : live_in (x ∷ xs) p.entry.slot ≡ live_in xs p.entry.slot = rw no refl in
    found ∙ none-live xs p (All-tail (λ q. GoesBefore q p) x xs before))
    (cases_Bool (lives_in p.entry.slot x))

freed-low : (end : Option ℕ) (deadline c : ℕ) → IsSomeAnd (option_map (λ e. e + deadline - 1) end) (λ from. from ≤ c)
    → option_map_or (λ from. from) (option_map (λ e. e + deadline - 1) end) 0 ≤ c
freed-low end deadline c free = grind arith

freed-before : (q p : Placed) → GoesBefore q p → freed_by p.entry.slot q ≤ p.origin
freed-before q p before = grind (arith, eq-eqb, freed-low, ne_eqb)

-- and the slot is free of them from its origin on
free-below : (placed : List Placed) (p : Placed) → All (λ q. GoesBefore q p) placed → free_in placed p.entry.slot ≤ p.origin
free-below [] p before = omega arith
free-below (x ∷ xs) p before =
    max-le (freed-before x p (All-head (λ q. GoesBefore q p) x xs before)) (free-below xs p (All-tail (λ q. GoesBefore q p) x xs before))

-- what an entry makes of its slot, where the slot has no live entry and is free before the entry's end
pushed : (end : Option ℕ) (deadline before : ℕ) (p : Placed) → IfSome end (λ e. before ≤ e + deadline - 1)
    → (if is_none (if is_none end then Some p else None) then max before (option_map_or (λ from. from) (option_map (λ e. e + deadline - 1) end) 0) else 0)
    ≡ option_map_or (λ from. from) (option_map (λ e. e + deadline - 1) end) 0
pushed end deadline before p below = grind (arith, max-eq_right)

use-same : (placed : List Placed) (p : Placed) → IsInRange p → All (λ q. GoesBefore q p) placed → use_of (placed ++ p ∷ []) p.entry.slot ≡ use_by p
use-same placed p range before = grind (arith, free-below, live-push, free-push, none-live, eq-eqb, is_none, pushed)

use-other : (placed : List Placed) (p : Placed) (slot : ℕ) → p.entry.slot ≢ slot → use_of (placed ++ p ∷ []) slot ≡ use_of placed slot
use-other placed p slot other = grind (arith, live-push, free-push, ne_eqb, max-zero)

-- the last entry of another slot
last-other : (placed : List Placed) (p : Placed) (slot count : ℕ) → p.entry.slot ≢ slot → IsUpToLast placed slot count → IsUpToLast (placed ++ p ∷ []) slot count
last-other placed p slot count other kept = record {
  none = λ empty. use-other placed p slot other ∙ kept.none empty;
  last = λ place is.
      let last = kept.last place is in
      let within = last.within in
      record {
        within = rw (length_push placed p) (omega arith);
        has = λ d. rw (get_or_append_left placed (p ∷ []) d place within) (last.has d);
        makes = λ d. rw (get_or_append_left placed (p ∷ []) d place within) (use-other placed p slot other ∙ last.makes d);
      };
}

-- the slot of one entry more
last-same : (placed : List Placed) (p : Placed) (count : ℕ) → IsInRange p → All (λ q. GoesBefore q p) placed → count ≡ length placed + 1
    → IsUpToLast (placed ++ p ∷ []) p.entry.slot count
last-same placed p count range before is = grind (arith, length_push, get_or_push, use-same)

-- the slots before any entry
pub last-none : AreUpToLast [] (replicate most_slots 0)
last-none = record {
  room = refl;
  each = λ slot d within. record {
    none = λ empty. refl;
    last = λ place is. let at = get_or-replicate {A = ℕ} most_slots slot 0 d within in absurd (omega arith);
  };
}

-- the slots after one entry more
pub last-more : (placed : List Placed) (p : Placed) (counts : List ℕ) (count : ℕ) → IsInRange p → All (λ q. GoesBefore q p) placed → count ≡ length placed + 1
    → AreUpToLast placed counts → AreUpToLast (placed ++ p ∷ []) (set counts p.entry.slot count)
last-more placed p counts count range before is kept = record {
  room = length-set counts p.entry.slot count ∙ kept.room;
  each = λ slot d below.
      ⊎_elim
      (λ (same : p.entry.slot ≡ slot). grind (arith, last-same, get_or-set_at))
      (λ (other : p.entry.slot ≢ slot).
      rw (get_or-set_other counts p.entry.slot slot count d (λ same. other (sym same))) (last-other placed p slot _ other (kept.each slot d below)))
      (cases_eq p.entry.slot slot);
}

-- the entries up to one of a list in order go before it
pub all-before : (placed : List Placed) (i : ℕ) → i < length placed → AllPairs GoesBefore placed → All (λ q. GoesBefore q (get_or placed i no_entry)) (take i placed)
all-before placed i within pairs k d below =
    let long = length-take-le i placed (omega arith) in
    let short : k < i = omega arith in
    rw (get_or-take i placed k d short, get_or_default placed i no_entry d within) (pairs k i d short within)
