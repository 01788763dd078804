-- A well formed change keeps a list of placed entries well placed.
use Rattle.std.proofs.Common.{◌≡◌, ℕ, ◌+◌, ◌-◌, ◌^◌, ◌<◌, ◌≤◌, ◌⊎◌, Bool, true, false, ◌&&◌, if◌then◌else◌, Option, Some, None, IfSome, IsSomeAnd, is_none, List, [], ◌∷◌, ◌++◌, length, get_or, map, All, AllPairs, refl, sym, ◌∙◌, ⊎_elim, inl, inr, arith}
use Rattle.std.specs.List.{filter_map, list_any}
use Rattle.std.specs.Option.{option_map, option_map_or}
use Rattle.std.proofs.lemmas.Bool.Decides.{nat_tests}
use Rattle.std.proofs.lemmas.Bool.{and_parts, cases_Bool, eq-eqb, eqb-true, or_cases}
use Rattle.std.proofs.lemmas.List.{get_or_default}
use Rattle.std.proofs.lemmas.List.Elements.{All-nil, All-cons, All-head, All-tail, All-append, All-map, All-weaker}
use Rattle.std.proofs.lemmas.List.Folds.{list_any-from_Any}
use Rattle.std.proofs.lemmas.List.Recursion.{max_bounds}
use Rattle.requirement_table.specs.declared.entries.Entry.{Entry}
use Rattle.requirement_table.specs.declared.entries.Placed.{Placed}
use Rattle.bit_sets.specs.Sets.{most_slots}
use Rattle.requirement_table.specs.Table.{GoesBefore, IsFreeAt, IsInRange, IsWellPlaced}
use Rattle.change_protocol.specs.declared.operations.Op.{Op}
use Rattle.change_protocol.specs.declared.operations.Op.TheVariants.{Add, Remove, Change}
use Rattle.change_protocol.specs.declared.operations.Change.{Change as TableChange}
use Rattle.change_protocol.specs.Operations.{HasTypes, ends}
use Rattle.change_protocol.specs.Applied.{IsKept, applied, ended, free_in, freed_by, live_in, lives_in, origin_behind, placed_by}
use Rattle.change_protocol.specs.Malformed.{Bounds, IsWellFormed, bounds_of, change_faults, op_faults}
use Rattle.change_protocol.proofs.Allowed.{CanEnd, Differ, IsAllowed, all-differ, allowed-most, both-none, none-mapped, not-held}
use Rattle.change_protocol.proofs.Kept.{ended-kept, live-in_range, none-from_test}
use Rattle.change_protocol.proofs.Live.{find-kept, find-none}
use Rattle.change_protocol.proofs.Pairs.{all-filter_map, pairs-append, pairs-filter_map, pairs-head, pairs-map, pairs-nil, pairs-tail}

-- live entries

none-free : (end : Option ℕ) (deadline c : ℕ) → end ≡ None → IsSomeAnd (option_map (λ e. e + deadline - 1) end) (λ from. from ≤ c) → ⊥
none-free end deadline c none free = grind arith

pub never-free : (p : Placed) (c : ℕ) → p.end ≡ None → IsFreeAt p c → ⊥
never-free p c none free = none-free p.end p.entry.deadline c none free

later-free : (end : Option ℕ) (deadline c d : ℕ) → c ≤ d → IsSomeAnd (option_map (λ e. e + deadline - 1) end) (λ from. from ≤ c) → IsSomeAnd (option_map (λ e. e + deadline - 1) end) (λ from. from ≤ d)
later-free end deadline c d later free = grind arith

free-later : (p : Placed) (c d : ℕ) → c ≤ d → IsFreeAt p c → IsFreeAt p d
free-later p c d later free = later-free p.end p.entry.deadline c d later free

pub lives-parts : (slot : ℕ) (p : Placed) → lives_in slot p ≡ true → (p.entry.slot ≡ slot) × (p.end ≡ None)
lives-parts slot p lives = grind (arith, and_parts, is_none, eqb-true, none-from_test)

-- each entry of a slot is its live entry, or free before the origin of that
pub around-live : (placed : List Placed) (slot : ℕ) (live : Placed) → AllPairs GoesBefore placed → live_in placed slot ≡ Some live
    → All (λ p. p.entry.slot ≡ slot → (p ≡ live) ⊎ IsFreeAt p live.origin) placed
around-live [] slot live pairs found = All-nil (λ p. p.entry.slot ≡ slot → (p ≡ live) ⊎ IsFreeAt p live.origin)
around-live (x ∷ xs) slot live pairs found =
    ⊎_elim
    (λ (yes : lives_in slot x ≡ true).
    let is : live_in (x ∷ xs) slot ≡ Some x = rw yes refl in
    let same : x ≡ live = cc in
    let parts = lives-parts slot x yes in
    All-cons (λ p. p.entry.slot ≡ slot → (p ≡ live) ⊎ IsFreeAt p live.origin) x xs (λ _. inl same)
    (All-weaker (GoesBefore x) (λ p. p.entry.slot ≡ slot → (p ≡ live) ⊎ IsFreeAt p live.origin)
    (λ p before at. absurd (never-free x p.origin parts.1 (before (parts.0 ∙ sym at)))) xs (pairs-head GoesBefore x xs pairs)))
    (λ (no : lives_in slot x ≡ false).
    let is : live_in (x ∷ xs) slot ≡ live_in xs slot = rw no refl in
    let behind : live_in xs slot ≡ Some live = sym is ∙ found in
    let both = rw behind at (find-kept (GoesBefore x) (lives_in slot) xs (pairs-head GoesBefore x xs pairs)) in
    All-cons (λ p. p.entry.slot ≡ slot → (p ≡ live) ⊎ IsFreeAt p live.origin) x xs
    (λ at. inr (both.0 (at ∙ sym (lives-parts slot live both.1).0)))
    (around-live xs slot live (pairs-tail GoesBefore x xs pairs) behind))
    (cases_Bool (lives_in slot x))

-- the ends

low : (start : ℕ) (p : Placed) (found : Option Placed) → IsSomeAnd found (λ live. live.origin ≤ start) → p.end ≡ None
    → ((live : Placed) → found ≡ Some live → (p ≡ live) ⊎ IsFreeAt p live.origin) → p.origin ≤ start
low start p None can none around = absurd can
low start p (Some live) can none around =
    ⊎_elim
    (λ (same : p ≡ live). rw same can)
    (λ (free : IsFreeAt p live.origin). absurd (never-free p live.origin none free))
    (around live refl)

-- a live entry whose slot can be ended at `start` begins at or before it
ended-low : (placed : List Placed) (start : ℕ) → AllPairs GoesBefore placed → All (λ p. p.end ≡ None → CanEnd placed start p.entry.slot → p.origin ≤ start) placed
ended-low placed start pairs k d within none can =
    let p = get_or placed k d in
    low start p (live_in placed p.entry.slot) can none (λ live found. around-live placed p.entry.slot live pairs found k d within refl)

ending-slot : (placed : List Placed) (start slot : ℕ) (op : Op) → IsAllowed most_slots placed start op → ends slot op ≡ true → CanEnd placed start slot
ending-slot placed start slot op allowed ending = grind (arith, eqb-true)

ending-fits : (placed : List Placed) (start slot : ℕ) (ops : List Op) → All (IsAllowed most_slots placed start) ops → list_any (ends slot) ops ≡ true → CanEnd placed start slot
ending-fits placed start slot [] allowed ending = absurd (cc)
ending-fits placed start slot (op ∷ ops) allowed ending =
    ⊎_elim
    (λ (this : ends slot op ≡ true). ending-slot placed start slot op (All-head (IsAllowed most_slots placed start) op ops allowed) this)
    (λ (other : list_any (ends slot) ops ≡ true). ending-fits placed start slot ops (All-tail (IsAllowed most_slots placed start) op ops allowed) other)
    (or_cases (ends slot op) (list_any (ends slot) ops) ending)

range-if : (b : Bool) (start : ℕ) (p : Placed) → IsInRange p → start < 2 ^ 40 → (b ≡ true → p.origin ≤ start) → IsInRange (if b then record p { end = Some start } else p)
range-if b start p range early below = grind arith

ended-in_range : (placed : List Placed) (start : ℕ) (ops : List Op) → IsWellPlaced placed → start < 2 ^ 40 → All (IsAllowed most_slots placed start) ops → All (λ p. IsInRange (ended start ops p)) placed
ended-in_range placed start ops well early allowed k d within =
    let p = get_or placed k d in
    range-if (is_none p.end && list_any (ends p.entry.slot) ops) start p (well.in_range k d within) early
    (λ both.
    let parts = and_parts (is_none p.end) (list_any (ends p.entry.slot) ops) both in
    ended-low placed start well.in_order k d within (none-from_test p.end parts.0) (ending-fits placed start p.entry.slot ops allowed parts.1))

-- what holds in order before a change holds in order after it
kept-before : (start : ℕ) (p q r s : Placed) → IsKept start p r → IsKept start q s → GoesBefore p q → GoesBefore r s
kept-before start p q r s h0 h1 h2 = grind (arith, never-free)

-- the new entries

behind-low : (found : Option Placed) (start : ℕ) → IfSome found IsInRange → start < 2 ^ 40 → option_map_or (λ p. start + p.entry.deadline - 1) found start < 2 ^ 42
behind-low found start range early = grind arith

placed-in_range : (placed : List Placed) (start : ℕ) (op : Op) → All IsInRange placed → start < 2 ^ 40 → IsAllowed most_slots placed start op → HasTypes op → IfSome (placed_by placed start op) IsInRange
placed-in_range placed start op all early allowed typed = grind (arith, behind-low, live-in_range)

-- two operations with different slots place entries that are not in each other's way
apart : (placed : List Placed) (start : ℕ) (one other : Op) → Differ one other → IfSome (placed_by placed start one) (λ p. IfSome (placed_by placed start other) (GoesBefore p))
apart placed start one other differ = grind arith

-- old entries before new ones

not-ended : (start : ℕ) (ops : List Op) (p : Placed) → is_none p.end ≡ false → ended start ops p ≡ p
not-ended start ops p some = rw some refl

free-some : (end : Option ℕ) (deadline c : ℕ) → IsSomeAnd (option_map (λ e. e + deadline - 1) end) (λ from. from ≤ c) → is_none end ≡ false
free-some end deadline c free = grind arith

before-added : (placed : List Placed) (start : ℕ) (ops : List Op) (p : Placed) (entry : Entry) → lives_in entry.slot p ≡ false → freed_by entry.slot p ≤ start
    → GoesBefore (ended start ops p) (record { entry = entry; origin = start; end = None })
before-added placed start ops p entry h0 h1 = grind (arith, ended-kept, is_none, eq-eqb, not-ended)

before-changed : (start : ℕ) (ops : List Op) (p live : Placed) (entry : Entry) → (p.entry.slot ≡ entry.slot → (p ≡ live) ⊎ IsFreeAt p live.origin)
    → live.end ≡ None → live.origin ≤ start → 1 ≤ live.entry.deadline → list_any (ends entry.slot) ops ≡ true
    → GoesBefore (ended start ops p) (record { entry = entry; origin = start + live.entry.deadline - 1; end = None })
before-changed start ops p live entry h0 h1 h2 h3 h4 = grind (arith, ended-kept, is_none, not-ended, free-some, free-later)

change-behind : (placed : List Placed) (start : ℕ) (ops : List Op) (p : Placed) (entry : Entry) (found : Option Placed) → live_in placed entry.slot ≡ found
    → IfSome found (λ live. IsInRange live × (lives_in entry.slot live ≡ true)) → IsSomeAnd found (λ live. live.origin ≤ start)
    → ((live : Placed) → found ≡ Some live → p.entry.slot ≡ entry.slot → (p ≡ live) ⊎ IsFreeAt p live.origin)
    → list_any (ends entry.slot) ops ≡ true
    → GoesBefore (ended start ops p) (record { entry = entry; origin = origin_behind placed start entry.slot; end = None })
change-behind placed start ops p entry None is known can around ending = absurd can
change-behind placed start ops p entry (Some live) is known can around ending =
    let some_time = known.0.entry.some_time in
    rw is (before-changed start ops p live entry (around live refl) (lives-parts entry.slot live known.1).1 can some_time ending)

-- an old entry, where the facts of the list are known of it, before the entry that an operation places
before-placed : (placed : List Placed) (start : ℕ) (ops : List Op) (p : Placed) (op : Op) → IsWellPlaced placed → IsAllowed most_slots placed start op
    → ((slot : ℕ) → live_in placed slot ≡ None → lives_in slot p ≡ false)
    → ((slot : ℕ) → freed_by slot p ≤ free_in placed slot)
    → ((slot : ℕ) (live : Placed) → live_in placed slot ≡ Some live → p.entry.slot ≡ slot → (p ≡ live) ⊎ IsFreeAt p live.origin)
    → ((slot : ℕ) → ends slot op ≡ true → list_any (ends slot) ops ≡ true)
    → IfSome (placed_by placed start op) (GoesBefore (ended start ops p))
before-placed placed start ops p (Add entry) well allowed dead freed around ending =
    let fits = allowed.fits in
    before-added placed start ops p entry (dead entry.slot fits.0) (omega arith)
before-placed placed start ops p (Remove slot) well allowed dead freed around ending = tt
before-placed placed start ops p (Change entry) well allowed dead freed around ending =
    change-behind placed start ops p entry (live_in placed entry.slot) refl (find-kept IsInRange (lives_in entry.slot) placed well.in_range) allowed.fits
    (λ live found same. around entry.slot live found same)
    (ending entry.slot (eq-eqb entry.slot entry.slot refl))

any-at : {X : Type 0} (test : X → Bool) (xs : List X) (k : ℕ) (d : X) → k < length xs → test (get_or xs k d) ≡ true → list_any test xs ≡ true
any-at test xs k d within holds = list_any-from_Any test xs (k, get_or xs k d, within, get_or_default xs k (get_or xs k d) d within, holds)

pub most : (placed : List Placed) (slot k : ℕ) (d : Placed) → k < length placed → freed_by slot (get_or placed k d) ≤ free_in placed slot
most placed slot k d within = max_bounds (λ (ps : List Placed). free_in ps slot) (freed_by slot) refl (λ x xs. refl) placed k d within

across : (placed : List Placed) (start : ℕ) (ops : List Op) → IsWellPlaced placed → All (IsAllowed most_slots placed start) ops
    → All (λ p. All (GoesBefore (ended start ops p)) (filter_map (placed_by placed start) ops)) placed
across placed start ops well allowed k d within =
    let p = get_or placed k d in
    all-filter_map (GoesBefore (ended start ops p)) (placed_by placed start) ops
    (λ j f below.
    before-placed placed start ops p (get_or ops j f) well (allowed j f below)
    (λ slot none. find-none (lives_in slot) placed none k d within)
    (λ slot. most placed slot k d within)
    (λ slot live found. around-live placed slot live well.in_order found k d within)
    (λ slot ending. any-at (ends slot) ops j f below ending))

-- the list after operations that are allowed and have different slots is well placed
well_placed-after : (placed : List Placed) (start : ℕ) (ops : List Op) → IsWellPlaced placed → start < 2 ^ 40 → All (IsAllowed most_slots placed start) ops → AllPairs Differ ops → All HasTypes ops
    → IsWellPlaced (map (ended start ops) placed ++ filter_map (placed_by placed start) ops)
well_placed-after placed start ops well early allowed differ typed =
    let behind = filter_map (placed_by placed start) ops in
    record {
      in_range =
          All-append IsInRange (map (ended start ops) placed) behind
          (All-map IsInRange (ended start ops) placed (ended-in_range placed start ops well early allowed))
          (all-filter_map IsInRange (placed_by placed start) ops (λ k d within. placed-in_range placed start (get_or ops k d) well.in_range early (allowed k d within) (typed k d within)));
      in_order =
          pairs-append GoesBefore (map (ended start ops) placed) behind
          (pairs-map GoesBefore GoesBefore (ended start ops) (λ p q before. kept-before start p q (ended start ops p) (ended start ops q) (ended-kept start ops p) (ended-kept start ops q) before) placed well.in_order)
          (pairs-filter_map Differ GoesBefore (placed_by placed start) (apart placed start) ops differ)
          (All-map (λ p. All (GoesBefore p) behind) (ended start ops) placed (across placed start ops well allowed));
    }

pub early-start : (start : ℕ) (ops : List Op) → change_faults start ops ≡ [] → start < 2 ^ 40
early-start start ops none = grind (arith, both-none, not-held, none-mapped, nat_tests)

-- a well formed change keeps a list well placed
pub well_placed-applied : (placed : List Placed) (bounds : Bounds) (change : TableChange) → bounds.slots ≤ most_slots → IsWellPlaced placed → change_faults change.start change.ops ≡ []
    → op_faults placed bounds change.start [] change.ops ≡ [] → All HasTypes change.ops → IsWellPlaced (applied placed change)
well_placed-applied placed bounds change room well whole each typed =
    well_placed-after placed change.start change.ops well (early-start change.start change.ops whole)
    (allowed-most placed bounds change.start change.ops room each)
    (all-differ placed bounds change.start [] change.ops each (pairs-nil Differ))
    typed

pub well_placed-formed : (placed : List Placed) (nodes slots : ℕ) (change : TableChange) → slots ≤ most_slots → IsWellPlaced placed → IsWellFormed placed (bounds_of nodes slots) change → All HasTypes change.ops
    → IsWellPlaced (applied placed change)
well_placed-formed placed nodes slots change room well formed typed = grind (arith, both-none, well_placed-applied)
