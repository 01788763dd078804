-- Where the last entry of each slot stands: numbers that are kept over changes.
use Rattle.std.proofs.Common.{◌≡◌, ℕ, zero, suc, ◌+◌, ◌<◌, ◌≤◌, true, false, Option, Some, None, IfSome, is_none, List, [], ◌∷◌, ◌++◌, length, get_or, set, map, take, replicate, refl, sym, ap, subst, ◌∙◌, arith}
use Rattle.std.proofs.Math.Seq.{take-append_seam, take-length}
use Rattle.std.proofs.lemmas.List.{length-map, length-take-le, take_more}
use Rattle.requirement_table.specs.declared.entries.Entry.{Entry}
use Rattle.requirement_table.specs.declared.entries.Placed.{Placed}
use Rattle.bit_sets.specs.Sets.{most_slots}
use Rattle.requirement_table.specs.Table.{IsInRange, IsWellPlaced}
use Rattle.change_protocol.specs.declared.operations.Op.{Op}
use Rattle.change_protocol.specs.declared.operations.Op.TheVariants.{Change, Remove}
use Rattle.change_protocol.specs.declared.slots.SlotUse.{SlotUse}
use Rattle.change_protocol.specs.Applied.{ended, live_in}
use Rattle.change_protocol.specs.Operations.{slot_of}
use Rattle.change_protocol.specs.Slots.{AreUpToLast, EndsAt, FindsOnly, IsCounted, IsLastAt, counts_behind, counts_of, ended_by}
use Rattle.change_protocol.proofs.Allowed.{not-held}
use Rattle.change_protocol.proofs.Ends.{finds-live, finds-none}
use Rattle.change_protocol.proofs.Uses.{all-before, last-more, last-none, no_entry}

behind-push : (before : ℕ) (counts : List ℕ) (placed : List Placed) (p : Placed) → counts_behind before counts (placed ++ p ∷ []) ≡ set (counts_behind before counts placed) p.entry.slot (before + length placed + 1)
behind-push before counts [] p = ap (λ (n : ℕ). set counts p.entry.slot n) (omega arith)
behind-push before counts (q ∷ placed) p =
    behind-push (before + 1) (set counts q.entry.slot (before + 1)) placed p
    ∙ ap (λ (n : ℕ). set (counts_behind (before + 1) (set counts q.entry.slot (before + 1)) placed) p.entry.slot n) (omega arith)

-- one entry more
pub counts-push : (placed : List Placed) (p : Placed) → counts_of (placed ++ p ∷ []) ≡ set (counts_of placed) p.entry.slot (length placed + 1)
counts-push placed p = grind (arith, behind-push, replicate)

-- the same in the loop over the entries
pub counts-next : (placed : List Placed) (i : ℕ) (d : Placed) (counts : List ℕ) → i < length placed → counts ≡ counts_of (take i placed)
    → set counts (get_or placed i d).entry.slot (i + 1) ≡ counts_of (take (i + 1) placed)
counts-next placed i d counts within is =
    let long = length-take-le i placed (omega arith) in
    sym
    (ap counts_of (take_more placed i d within)
    ∙ counts-push (take i placed) (get_or placed i d)
    ∙ ap (λ (n : ℕ). set (counts_of (take i placed)) (get_or placed i d).entry.slot n) (ap (λ (n : ℕ). n + 1) long)
    ∙ ap (λ (l : List ℕ). set l (get_or placed i d).entry.slot (i + 1)) (sym is))

up-to : (placed : List Placed) (i : ℕ) → IsWellPlaced placed → i ≤ length placed → AreUpToLast (take i placed) (counts_of (take i placed))
up-to placed zero well within = last-none
up-to placed (suc i) well within =
    let below : i < length placed = omega arith in
    let p = get_or placed i no_entry in
    let range : IsInRange p = well.in_range i no_entry below in
    let one_more : suc i ≡ i + 1 = omega arith in
    rw (one_more, take_more placed i no_entry below, counts-push (take i placed) p)
    (last-more (take i placed) p (counts_of (take i placed)) _ range (all-before placed i below well.in_order) refl (up-to placed i well (omega arith)))

-- the numbers of a well placed list tell where the last entry of each slot stands
pub up-to-last : (placed : List Placed) (counts : List ℕ) → IsCounted placed counts → AreUpToLast placed counts
up-to-last placed counts is =
    subst (λ (l : List Placed). AreUpToLast l counts) (take-length placed)
    (rw (is.counted, ap counts_of (sym (take-length placed))) (up-to placed (length placed) is.well_placed (omega arith)))

ended-slot : (start : ℕ) (ops : List Op) (p : Placed) → (ended start ops p).entry.slot ≡ p.entry.slot
ended-slot start ops p = grind (arith, is_none)

ended-behind : (before : ℕ) (counts : List ℕ) (start : ℕ) (ops : List Op) (placed : List Placed) → counts_behind before counts (map (ended start ops) placed) ≡ counts_behind before counts placed
ended-behind before counts start ops [] = refl
ended-behind before counts start ops (p ∷ placed) =
    ended-behind (before + 1) (set counts (ended start ops p).entry.slot (before + 1)) start ops placed
    ∙ ap (λ (slot : ℕ). counts_behind (before + 1) (set counts slot (before + 1)) placed) (ended-slot start ops p)

-- an end moves no entry
pub counts-ended : (start : ℕ) (ops : List Op) (placed : List Placed) → counts_of (map (ended start ops) placed) ≡ counts_of placed
counts-ended start ops placed = ended-behind 0 (replicate most_slots 0) start ops placed

-- the place of a slot's last entry by these numbers
pub last-by : (placed : List Placed) (slot : ℕ) (counts : List ℕ) (found : Option ℕ) → AreUpToLast placed counts → slot < most_slots
    → ((place : ℕ) → found ≡ Some place → get_or counts slot 0 ≡ place + 1) → IfSome found (IsLastAt placed slot)
last-by placed slot counts None are low is = tt
last-by placed slot counts (Some place) are low is = (are.each slot 0 low).last place (is place refl)

-- a slot with a live entry: it is the last one
live-last : (placed : List Placed) (slot place : ℕ) → IsLastAt placed slot place → is_none (live_in placed slot) ≡ false → is_none (get_or placed place no_entry).end ≡ true
live-last placed slot place last live = grind (arith, is_none, no_entry)

-- it is found by the numbers alone
pub ends-by : (placed : List Placed) (slot : ℕ) (counts : List ℕ) (found : Option ℕ) → IsCounted placed counts → slot < most_slots → is_none (live_in placed slot) ≡ false
    → (found ≡ None → get_or counts slot 0 ≡ 0) → ((place : ℕ) → found ≡ Some place → get_or counts slot 0 ≡ place + 1)
    → FindsOnly (ended_by (Remove slot)) placed found
ends-by placed slot counts None is low live none some =
    finds-none placed slot (ap (λ (u : SlotUse). u.live) (((up-to-last placed counts is).each slot 0 low).none (none refl)))
ends-by placed slot counts (Some place) is low live none some =
    let last = ((up-to-last placed counts is).each slot 0 low).last place (some place refl) in
    finds-live placed slot place no_entry is.well_placed.in_order last (live-last placed slot place last live)

-- the same for each operation that ends an entry
pub ends-removed : (counts : List ℕ) (op : Op) (slot : ℕ) (found : Option ℕ) → op ≡ Remove slot → slot_of op < most_slots
    → (found ≡ None → get_or counts slot 0 ≡ 0) → ((place : ℕ) → found ≡ Some place → get_or counts slot 0 ≡ place + 1) → EndsAt counts op found
ends-removed counts op slot found is low none some = grind (arith, ends-by, not-held)

pub ends-changed : (counts : List ℕ) (op : Op) (entry : Entry) (found : Option ℕ) → op ≡ Change entry → slot_of op < most_slots
    → (found ≡ None → get_or counts entry.slot 0 ≡ 0) → ((place : ℕ) → found ≡ Some place → get_or counts entry.slot 0 ≡ place + 1) → EndsAt counts op found
ends-changed counts op entry found is low none some =
    rw is (λ placed counted live. ends-by placed entry.slot counts found counted (rw is at low) (not-held _ _ live) none some)

-- the numbers of the old entries after a change: those of the entries up to the first new one
pub counts-before : (placed added list : List Placed) (start : ℕ) (ops : List Op) (counts : List ℕ) (before : ℕ) → counts ≡ counts_of placed → before ≡ length placed → list ≡ map (ended start ops) placed ++ added
    → counts ≡ counts_of (take before list)
counts-before placed added list start ops counts before is long after = grind (arith, length-map, take-append_seam, counts-ended)
