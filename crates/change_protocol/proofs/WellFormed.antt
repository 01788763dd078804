-- A change is well formed exactly where it breaks no rule in the words of its operations.
use Rattle.std.proofs.Common.{◌≡◌, ◌↔◌, ℕ, ◌<◌, ◌≤◌, true, false, ◌||◌, nat_eq, nat_lt, Option, Some, None, IfSome, IsSomeAnd, is_none, List, [], ◌∷◌, ◌++◌, length, get_or, map, All, AllPairs, Contains, refl, ap, arith}
use Rattle.std.specs.List.{find}
use Rattle.std.specs.Option.{option_map_or}
use Rattle.std.proofs.lemmas.Bool.{and_from, eq-eqb, eqb-false, lt-leb, ltb-false, ne_eqb, or_from}
use Rattle.std.proofs.lemmas.List.Elements.{All-contains_itself, All-head, All-push, All-tail}
use Rattle.std.proofs.lemmas.List.Folds.{list_any_none}
use Rattle.std.proofs.lemmas.List.Recursion.{max_least}
use Rattle.requirement_table.specs.declared.entries.Entry.{Entry}
use Rattle.requirement_table.specs.declared.entries.Placed.{Placed}
use Rattle.requirement_table.specs.Table.{IsFreeAt, IsWellPlaced}
use Rattle.change_protocol.specs.declared.operations.Op.{Op}
use Rattle.change_protocol.specs.declared.operations.Op.TheVariants.{Add, Remove, Change}
use Rattle.change_protocol.specs.declared.operations.Change.{Change as TableChange}
use Rattle.change_protocol.specs.declared.malformed.Why.TheVariants.{SlotEmpty}
use Rattle.change_protocol.specs.Operations.{entry_of}
use Rattle.change_protocol.specs.Applied.{freed_by, free_in, live_in, lives_in}
use Rattle.change_protocol.specs.Malformed.{Bounds, IsWellFormed, add_busy_by, broken, change_faults, end_busy_by, no_ops, op_faults, slot_busy, slot_empty, start_range, too_many_ops, where_holds, whys}
use Rattle.change_protocol.specs.WellFormed.{BreaksNoRule, CanBePlaced, FindsSlot, HasLive, IsFreeSlot, KeepsRules}
use Rattle.change_protocol.proofs.Allowed.{CanEnd, Differ, FitsIn, IsAllowed, all-allowed, all-differ, all-known, both-none, none-mapped, not-held}
use Rattle.change_protocol.proofs.First.{none_in_both}
use Rattle.change_protocol.proofs.Live.{find-kept, find-none}
use Rattle.change_protocol.proofs.Pairs.{pairs-head, pairs-nil, pairs-tail}
use Rattle.change_protocol.proofs.Uses.{no_entry}
use Rattle.change_protocol.proofs.WellPlaced.{around-live, early-start, lives-parts, most, never-free}

-- the slot of an operation

no-end : (slot : ℕ) (p : Placed) → p.entry.slot ≡ slot → lives_in slot p ≡ false → is_none p.end ≡ false
no-end slot p same dead = rw (eq-eqb p.entry.slot slot same) at dead

free-slot : (placed : List Placed) (slot start : ℕ) → live_in placed slot ≡ None → ((k : ℕ) (d : Placed) → k < length placed → freed_by slot (get_or placed k d) ≤ start) → IsFreeSlot placed slot start
free-slot placed slot start h0 h1 = grind (arith, no-end, find-none)

live-there : (placed : List Placed) (slot start : ℕ) (found : Option Placed) → IfSome found (λ p. Contains placed p × (lives_in slot p ≡ true)) → IsSomeAnd found (λ live. live.origin ≤ start) → HasLive placed slot start
live-there placed slot start found holds low = grind (arith, lives-parts)

has-live : (placed : List Placed) (slot start : ℕ) → CanEnd placed start slot → HasLive placed slot start
has-live placed slot start can =
    live-there placed slot start (live_in placed slot) (find-kept (Contains placed) (lives_in slot) placed (All-contains_itself placed)) can

-- and the other way round

one-live : (placed : List Placed) (slot start : ℕ) (p : Placed) (k : ℕ) (found : Option Placed) → live_in placed slot ≡ found → IsWellPlaced placed → k < length placed → get_or placed k p ≡ p
    → (p.entry.slot ≡ slot) × (p.end ≡ None) × (p.origin ≤ start) → IsSomeAnd found (λ live. live.origin ≤ start)
one-live placed slot start p k None is well within at holds = grind (arith, find-none, and_from, eq-eqb, is_none)
one-live placed slot start p k (Some live) is well within at holds =
    let around = rw at at (around-live placed slot live well.in_order is k p within) in
    grind (arith, never-free)

can-end : (placed : List Placed) (slot start : ℕ) → IsWellPlaced placed → HasLive placed slot start → CanEnd placed start slot
can-end placed slot start well has = one-live placed slot start has.1 has.0 (live_in placed slot) refl well has.2 has.3 has.4

none-live : (placed : List Placed) (slot start : ℕ) (found : Option Placed) → live_in placed slot ≡ found → IsFreeSlot placed slot start → found ≡ None
none-live placed slot start None is free = refl
none-live placed slot start (Some live) is free =
    let holds = rw is at (find-kept (λ p. p.entry.slot ≡ slot → IsFreeAt p start) (lives_in slot) placed free) in
    grind (arith, lives-parts, never-free)

freed-low : (p : Placed) (slot c : ℕ) → (p.entry.slot ≡ slot → IsFreeAt p c) → freed_by slot p ≤ c
freed-low p slot c free = grind (arith, eq-eqb, ne_eqb)

free-low : (placed : List Placed) (d : Placed) (slot start : ℕ) → IsFreeSlot placed slot start → free_in placed slot ≤ start
free-low placed d slot start free =
    max_least (λ (ps : List Placed). free_in ps slot) (freed_by slot) refl (λ x xs. refl) placed d start (λ k within. freed-low (get_or placed k d) slot start (free k d within))

-- one operation

finds : (placed : List Placed) (start : ℕ) (op : Op) → ((slot k : ℕ) (d : Placed) → k < length placed → freed_by slot (get_or placed k d) ≤ free_in placed slot) → FitsIn placed start op → FindsSlot placed start op
finds placed start op freed fits = grind (arith, free-slot, most, has-live)

keeps-rules : (placed : List Placed) (bounds : Bounds) (start : ℕ) (op : Op) → IsAllowed bounds.slots placed start op → IfSome (entry_of op) (λ entry. entry.node < bounds.nodes) → KeepsRules placed bounds start op
keeps-rules placed bounds start op allowed known = grind (arith, finds, most)

short : (bounds : Bounds) (placed_entry : Option Entry) → IfSome placed_entry (CanBePlaced bounds) → option_map_or (λ entry. nat_lt 8 entry.length) placed_entry false ≡ false
short bounds placed_entry can = grind (arith, lt-leb)

some-period : (bounds : Bounds) (placed_entry : Option Entry) → IfSome placed_entry (CanBePlaced bounds) → option_map_or (λ entry. nat_eq entry.period 0) placed_entry false ≡ false
some-period bounds placed_entry can = grind (arith, ne_eqb)

timely : (bounds : Bounds) (placed_entry : Option Entry) → IfSome placed_entry (CanBePlaced bounds) → option_map_or (λ entry. nat_eq entry.deadline 0 || nat_lt entry.period entry.deadline) placed_entry false ≡ false
timely bounds placed_entry can = grind (arith, or_from, nat_lt, ne_eqb, lt-leb)

not-busy : (found : Option Placed) (free start : ℕ) → found ≡ None → free ≤ start → add_busy_by found free start ≡ []
not-busy found free start none below = grind (arith, nat_lt, lt-leb)

can-be-ended : (found : Option Placed) (start : ℕ) → IsSomeAnd found (λ live. live.origin ≤ start) → (end_busy_by found start ≡ []) × (where_holds (is_none found) SlotEmpty ≡ [])
can-be-ended found start can = grind (arith, nat_lt, lt-leb)

in-slot : (placed : List Placed) (d : Placed) (start : ℕ) (op : Op) → IsWellPlaced placed → FindsSlot placed start op → (slot_busy placed start op ≡ []) × (slot_empty placed op ≡ [])
in-slot placed d start (Add entry) well find = (
  not-busy (live_in placed entry.slot) (free_in placed entry.slot) start (none-live placed entry.slot start (live_in placed entry.slot) refl find) (free-low placed d entry.slot start find),
  refl,
)
in-slot placed d start (Remove slot) well find = can-be-ended (live_in placed slot) start (can-end placed slot start well find)
in-slot placed d start (Change entry) well find = can-be-ended (live_in placed entry.slot) start (can-end placed entry.slot start well find)

no-whys : (placed : List Placed) (bounds : Bounds) (start : ℕ) (earlier : List Op) (op : Op) → IsWellPlaced placed → KeepsRules placed bounds start op → All (λ other. Differ other op) earlier → whys placed bounds start earlier op ≡ []
no-whys placed bounds start earlier op well keeps differ =
    grind (arith, in-slot, no_entry, finds, lt-leb, list_any_none, ne_eqb, none_in_both, short, some-period, timely)

-- all operations

no-op_faults : (placed : List Placed) (bounds : Bounds) (start : ℕ) (earlier ops : List Op) → IsWellPlaced placed → All (KeepsRules placed bounds start) ops → AllPairs Differ ops
    → All (λ op. All (λ other. Differ other op) earlier) ops → op_faults placed bounds start earlier ops ≡ []
no-op_faults placed bounds start earlier [] well keeps pairs differ = refl
no-op_faults placed bounds start earlier (op ∷ ops) well keeps pairs differ =
    none_in_both _ _
    (ap (map (broken (length earlier))) (no-whys placed bounds start earlier op well (All-head (KeepsRules placed bounds start) op ops keeps) (All-head (λ op. All (λ other. Differ other op) earlier) op ops differ)))
    (no-op_faults placed bounds start (earlier ++ op ∷ []) ops well (All-tail (KeepsRules placed bounds start) op ops keeps) (pairs-tail Differ op ops pairs)
    (λ k d within.
    All-push (λ other. Differ other (get_or ops k d)) earlier op
    (All-tail (λ op. All (λ other. Differ other op) earlier) op ops differ k d within)
    (pairs-head Differ op ops pairs k d within)))

-- whole changes

some-ops : (n : ℕ) → nat_eq n 0 ≡ false → 1 ≤ n
some-ops n test = let differs = eqb-false n 0 test in grind arith

well_formed-kept : (placed : List Placed) (bounds : Bounds) (change : TableChange) → IsWellFormed placed bounds change → BreaksNoRule placed bounds change
well_formed-kept placed bounds change formed =
    let ops = change.ops in
    let parts = both-none (change_faults change.start ops) (op_faults placed bounds change.start [] ops) formed in
    let whole = both-none (map (broken 0) (no_ops ops) ++ map (broken 16) (too_many_ops ops)) (map (broken 0) (start_range change.start)) parts.0 in
    let counts = both-none (map (broken 0) (no_ops ops)) (map (broken 16) (too_many_ops ops)) whole.0 in
    let allowed = all-allowed placed bounds change.start [] ops parts.1 in
    let known = all-known placed bounds change.start [] ops parts.1 in
    record {
      some = some-ops (length ops) (not-held _ _ (none-mapped (broken 0) (no_ops ops) counts.0));
      few = ltb-false 16 (length ops) (not-held _ _ (none-mapped (broken 16) (too_many_ops ops) counts.1));
      start = early-start change.start ops parts.0;
      each = λ k d within. keeps-rules placed bounds change.start (get_or ops k d) (allowed k d within) (known k d within);
      distinct = all-differ placed bounds change.start [] ops parts.1 (pairs-nil Differ);
    }

kept-well_formed : (placed : List Placed) (bounds : Bounds) (change : TableChange) → IsWellPlaced placed → BreaksNoRule placed bounds change → IsWellFormed placed bounds change
kept-well_formed placed bounds change well keeps = grind (arith, ne_eqb, nat_lt, lt-leb, none_in_both, no-op_faults)

pub well_formed-both : (placed : List Placed) (bounds : Bounds) (change : TableChange) → IsWellPlaced placed → IsWellFormed placed bounds change ↔ BreaksNoRule placed bounds change
well_formed-both placed bounds change well = (well_formed-kept placed bounds change, kept-well_formed placed bounds change well)
