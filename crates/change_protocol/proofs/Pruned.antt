-- What a list has in common with the same list pruned.
use Rattle.std.proofs.Common.{◌≡◌, ℕ, ◌+◌, ◌-◌, ◌<◌, ◌≤◌, Bool, true, false, ◌&&◌, ◌||◌, nat_eq, nat_le, if◌then◌else◌, Option, Some, None, IfSome, IsSomeAnd, is_none, option_map, List, [], ◌∷◌, ◌++◌, map, All, AllPairs, refl, sym, ap, ◌∙◌, subst, ⊎_elim, arith}
use Rattle.std.specs.List.{filter_map, find, list_any}
use Rattle.std.specs.Option.{option_map_or}
use Rattle.std.proofs.Math.Nat.{le-max_left, le-max_right, le_trans}
use Rattle.std.proofs.lemmas.Bool.{and_parts, cases_Bool, eqb-true, false≢true, le-leb, leb-true}
use Rattle.std.proofs.lemmas.List.Elements.{All-head, All-tail, filter-append}
use Rattle.requirement_table.specs.declared.entries.Placed.{Placed}
use Rattle.requirement_table.specs.Table.{GoesBefore, IsInRange, IsWellPlaced, free_from, is_over, not_over}
use Rattle.change_protocol.specs.declared.operations.Op.{Op}
use Rattle.change_protocol.specs.declared.operations.Change.{Change as TableChange}
use Rattle.change_protocol.specs.Operations.{ends}
use Rattle.change_protocol.specs.Applied.{applied, ended, free_in, freed_by, live_in, lives_in, placed_by}
use Rattle.change_protocol.specs.Malformed.{Bounds, Broken, change_faults, faults, op_faults, slot_busy, slot_empty, whys}
use Rattle.change_protocol.specs.Pruned.{has_slot, may_go, pruned}
use Rattle.change_protocol.proofs.Pairs.{pairs-head, pairs-tail}
use Rattle.change_protocol.proofs.Live.{find-none}

-- what is over by one cycle is over later

over-by : (free : Option ℕ) (early late : ℕ) → early ≤ late → option_map_or (λ from. nat_le from early) free false ≡ true
    → option_map_or (λ from. nat_le from late) free false ≡ true
over-by free early late before over = grind (arith, false≢true, leb-true, le-leb)

pub over-later : (early late : ℕ) (p : Placed) → early ≤ late → is_over early p ≡ true → is_over late p ≡ true
over-later early late p before over = over-by (free_from p) early late before over

goes-over : (c from : ℕ) (p : Placed) (placed : List Placed) → c ≤ from → may_go c p placed ≡ true → is_over from p ≡ true
goes-over c from p placed before goes = over-later c from p before (and_parts (is_over c p) (has_slot p.entry.slot placed) goes).0

-- so from then on the same entries are not over

not_over-step : (from : ℕ) (p : Placed) (kept placed : List Placed) (b : Bool) → (b ≡ true → is_over from p ≡ true) → not_over from kept ≡ not_over from placed
    → not_over from (if b then kept else p ∷ kept) ≡ not_over from (p ∷ placed)
not_over-step from p kept placed b gone same = grind arith

pub not_over-pruned : (c from : ℕ) (placed : List Placed) → c ≤ from → not_over from (pruned c placed) ≡ not_over from placed
not_over-pruned c from [] before = refl
not_over-pruned c from (p ∷ placed) before =
    not_over-step from p (pruned c placed) placed (may_go c p placed) (goes-over c from p placed before) (not_over-pruned c from placed before)

-- the same entries are live

over-dead : (slot c : ℕ) (end : Option ℕ) (deadline : ℕ) (at : Bool) → option_map_or (λ from. nat_le from c) (option_map (λ e. e + deadline - 1) end) false ≡ true
    → (at && is_none end) ≡ false
over-dead slot c end deadline at over = grind (arith, false≢true)

find-step : (test : Placed → Bool) (p : Placed) (kept placed : List Placed) (b : Bool) → (b ≡ true → test p ≡ false) → find test kept ≡ find test placed
    → find test (if b then kept else p ∷ kept) ≡ find test (p ∷ placed)
find-step test p kept placed b gone same = grind arith

pub live-pruned : (c slot : ℕ) (placed : List Placed) → live_in (pruned c placed) slot ≡ live_in placed slot
live-pruned c slot [] = refl
live-pruned c slot (p ∷ placed) =
    find-step (lives_in slot) p (pruned c placed) placed (may_go c p placed)
    (λ goes. over-dead slot c p.end p.entry.deadline (nat_eq p.entry.slot slot) (goes-over c c p placed (omega arith) goes))
    (live-pruned c slot placed)

-- where none is live, the slot is free from the same cycle on: each entry but the last is free before the origin of one behind it

above-freed : (end : Option ℕ) (deadline origin from : ℕ) → 1 ≤ deadline → IfSome end (λ e. origin ≤ e) → is_none end ≡ false
    → from ≤ origin → from ≤ option_map_or (λ f. f) (option_map (λ e. e + deadline - 1) end) 0
above-freed end deadline origin from some range dead low = grind arith

free-at : (end : Option ℕ) (deadline origin : ℕ) → IsSomeAnd (option_map (λ e. e + deadline - 1) end) (λ from. from ≤ origin)
    → option_map_or (λ f. f) (option_map (λ e. e + deadline - 1) end) 0 ≤ origin
free-at end deadline origin free = grind arith

freed-here : (slot : ℕ) (p : Placed) → nat_eq p.entry.slot slot ≡ true → freed_by slot p ≡ option_map_or (λ f. f) (free_from p) 0
freed-here slot p at = ap (λ (b : Bool). if b then option_map_or (λ f. f) (free_from p) 0 else 0) at

freed-elsewhere : (slot : ℕ) (p : Placed) → nat_eq p.entry.slot slot ≡ false → freed_by slot p ≡ 0
freed-elsewhere slot p at = ap (λ (b : Bool). if b then option_map_or (λ f. f) (free_from p) 0 else 0) at

range-end : (end : Option ℕ) (origin last : ℕ) → IfSome end (λ e. (origin ≤ e) × (e < last)) → IfSome end (λ e. origin ≤ e)
range-end end origin last range = grind arith

dead-end : (at none : Bool) → at ≡ true → (at && none) ≡ false → none ≡ false
dead-end at none is dead = grind arith

behind : (slot : ℕ) (p : Placed) (placed : List Placed) → nat_eq p.entry.slot slot ≡ true → has_slot slot placed ≡ true → All IsInRange placed
    → All (GoesBefore p) placed → All (λ q. lives_in slot q ≡ false) placed → freed_by slot p ≤ free_in placed slot
behind slot p [] at has range before dead = absurd (false≢true has)
behind slot p (q ∷ placed) at has range before dead =
    ⊎_elim
    (λ (here : nat_eq q.entry.slot slot ≡ true).
    let one = All-head IsInRange q placed range in
    let same : p.entry.slot ≡ q.entry.slot = eqb-true p.entry.slot slot at ∙ sym (eqb-true q.entry.slot slot here) in
    let low = free-at p.end p.entry.deadline q.origin (All-head (GoesBefore p) q placed before same) in
    let high = above-freed q.end q.entry.deadline q.origin (option_map_or (λ f. f) (free_from p) 0) one.entry.some_time
    (range-end q.end q.origin _ one.end) (dead-end (nat_eq q.entry.slot slot) (is_none q.end) here (All-head (λ r. lives_in slot r ≡ false) q placed dead)) low in
    subst (λ n. n ≤ free_in (q ∷ placed) slot) (sym (freed-here slot p at))
    (le_trans (subst (λ n. option_map_or (λ f. f) (free_from p) 0 ≤ n) (sym (freed-here slot q here)) high) (le-max_left (freed_by slot q) (free_in placed slot))))
    (λ (off : nat_eq q.entry.slot slot ≡ false).
    let rest : has_slot slot placed ≡ true = ap (λ (b : Bool). b || has_slot slot placed) (sym off) ∙ has in
    le_trans (behind slot p placed at rest (All-tail IsInRange q placed range) (All-tail (GoesBefore p) q placed before) (All-tail (λ r. lives_in slot r ≡ false) q placed dead))
    (le-max_right (freed_by slot q) (free_in placed slot)))
    (cases_Bool (nat_eq q.entry.slot slot))

free-step : (slot : ℕ) (p : Placed) (kept placed : List Placed) (b : Bool) → (b ≡ true → freed_by slot p ≤ free_in placed slot)
    → free_in kept slot ≡ free_in placed slot → free_in (if b then kept else p ∷ kept) slot ≡ free_in (p ∷ placed) slot
free-step slot p kept placed b low same = grind arith

free-of-dead : (c slot : ℕ) (placed : List Placed) → All IsInRange placed → AllPairs GoesBefore placed → All (λ q. lives_in slot q ≡ false) placed
    → free_in (pruned c placed) slot ≡ free_in placed slot
free-of-dead c slot [] range pairs dead = refl
free-of-dead c slot (p ∷ placed) range pairs dead =
    free-step slot p (pruned c placed) placed (may_go c p placed)
    (λ goes.
    ⊎_elim
    (λ (here : nat_eq p.entry.slot slot ≡ true).
    let has : has_slot slot placed ≡ true = subst (λ n. has_slot n placed ≡ true) (eqb-true p.entry.slot slot here) (and_parts (is_over c p) (has_slot p.entry.slot placed) goes).1 in
    behind slot p placed here has (All-tail IsInRange p placed range) (pairs-head GoesBefore p placed pairs) (All-tail (λ q. lives_in slot q ≡ false) p placed dead))
    (λ (off : nat_eq p.entry.slot slot ≡ false). let none = freed-elsewhere slot p off in omega arith)
    (cases_Bool (nat_eq p.entry.slot slot)))
    (free-of-dead c slot placed (All-tail IsInRange p placed range) (pairs-tail GoesBefore p placed pairs) (All-tail (λ q. lives_in slot q ≡ false) p placed dead))

pub free-pruned : (c slot : ℕ) (placed : List Placed) → IsWellPlaced placed → live_in placed slot ≡ None → free_in (pruned c placed) slot ≡ free_in placed slot
free-pruned c slot placed well none = free-of-dead c slot placed well.in_range well.in_order (find-none (lives_in slot) placed none)

-- so a change breaks the same rules

module _ (c : ℕ) (placed : List Placed) (well : IsWellPlaced placed) where
  busy-same : (start : ℕ) (op : Op) → slot_busy (pruned c placed) start op ≡ slot_busy placed start op
  busy-same start op = grind (arith, live-pruned, free-pruned)

  empty-same : (op : Op) → slot_empty (pruned c placed) op ≡ slot_empty placed op
  empty-same op = grind (arith, is_none, live-pruned)

  whys-same : (bounds : Bounds) (start : ℕ) (earlier : List Op) (op : Op) → whys (pruned c placed) bounds start earlier op ≡ whys placed bounds start earlier op
  whys-same bounds start earlier op = rw (busy-same start op, empty-same op) refl

  ops-same : (bounds : Bounds) (start : ℕ) (earlier ops : List Op) → op_faults (pruned c placed) bounds start earlier ops ≡ op_faults placed bounds start earlier ops
  ops-same bounds start earlier ops = grind (arith, whys-same)

  pub faults-pruned : (bounds : Bounds) (change : TableChange) → faults (pruned c placed) bounds change ≡ faults placed bounds change
  faults-pruned bounds change = ap (λ (l : List Broken). change_faults change.start change.ops ++ l) (ops-same bounds change.start [] change.ops)

-- and makes lists of which the same entries are not over

ended-over : (from start : ℕ) (ops : List Op) (p : Placed) → is_over from p ≡ true → is_over from (ended start ops p) ≡ true
ended-over from start ops p over = grind (arith, is_none, over-dead)

mapped-step : (from : ℕ) (f : Placed → Placed) (p : Placed) (kept placed : List Placed) (b : Bool) → (b ≡ true → is_over from (f p) ≡ true)
    → not_over from (map f kept) ≡ not_over from (map f placed) → not_over from (map f (if b then kept else p ∷ kept)) ≡ not_over from (map f (p ∷ placed))
mapped-step from f p kept placed b gone same = grind arith

mapped : (c from start : ℕ) (ops : List Op) (placed : List Placed) → c ≤ from
    → not_over from (map (ended start ops) (pruned c placed)) ≡ not_over from (map (ended start ops) placed)
mapped c from start ops [] before = refl
mapped c from start ops (p ∷ placed) before =
    mapped-step from (ended start ops) p (pruned c placed) placed (may_go c p placed)
    (λ goes. ended-over from start ops p (goes-over c from p placed before goes)) (mapped c from start ops placed before)

filter_map-same : {X Y : Type 0} (f g : X → Option Y) (xs : List X) → ((x : X) → f x ≡ g x) → filter_map f xs ≡ filter_map g xs
filter_map-same f g xs same = grind arith

placed-same : (c : ℕ) (placed : List Placed) (start : ℕ) (op : Op) → placed_by (pruned c placed) start op ≡ placed_by placed start op
placed-same c placed start op = grind (arith, live-pruned)

pub not_over-applied : (c from : ℕ) (placed : List Placed) (change : TableChange) → c ≤ from
    → not_over from (applied (pruned c placed) change) ≡ not_over from (applied placed change)
not_over-applied c from placed change before = grind (arith, filter-append, mapped, filter_map-same, placed-same)

-- what is pruned later is the same

pub new-pruned : (c : ℕ) (placed : List Placed) (start : ℕ) (ops : List Op) → filter_map (placed_by (pruned c placed) start) ops ≡ filter_map (placed_by placed start) ops
new-pruned c placed start ops = filter_map-same (placed_by (pruned c placed) start) (placed_by placed start) ops (placed-same c placed start)

slot-if : (b : Bool) (p q : Placed) → q.entry.slot ≡ p.entry.slot → (if b then q else p).entry.slot ≡ p.entry.slot
slot-if b p q same = grind arith

ended-slot : (start : ℕ) (ops : List Op) (p : Placed) → (ended start ops p).entry.slot ≡ p.entry.slot
ended-slot start ops p = slot-if (is_none p.end && list_any (ends p.entry.slot) ops) p (record p { end = Some start }) refl

has-step : (slot : ℕ) (p : Placed) (kept placed : List Placed) (b : Bool) → (b ≡ true → nat_eq p.entry.slot slot ≡ true → has_slot slot placed ≡ true)
    → has_slot slot kept ≡ has_slot slot placed → has_slot slot (if b then kept else p ∷ kept) ≡ has_slot slot (p ∷ placed)
has-step slot p kept placed b has same = grind arith

has-pruned : (c slot : ℕ) (placed : List Placed) → has_slot slot (pruned c placed) ≡ has_slot slot placed
has-pruned c slot [] = refl
has-pruned c slot (p ∷ placed) =
    has-step slot p (pruned c placed) placed (may_go c p placed)
    (λ goes here. subst (λ n. has_slot n placed ≡ true) (eqb-true p.entry.slot slot here) (and_parts (is_over c p) (has_slot p.entry.slot placed) goes).1)
    (has-pruned c slot placed)

or-same : (a b c d : Bool) → a ≡ b → c ≡ d → (a || c) ≡ (b || d)
or-same a b c d one two = ap (λ x. x || c) one ∙ ap (λ x. b || x) two

has-mapped : (start : ℕ) (ops : List Op) (new : List Placed) (slot : ℕ) (one other : List Placed) → ((s : ℕ) → has_slot s one ≡ has_slot s other)
    → has_slot slot (map (ended start ops) one ++ new) ≡ has_slot slot (map (ended start ops) other ++ new)
has-mapped start ops new slot one other same = has-all one ∙ ap (λ b. b || has_slot slot new) (same slot) ∙ sym (has-all other) where
  assoc : (a b c : Bool) → (a || (b || c)) ≡ ((a || b) || c)
  assoc true b c = refl
  assoc false b c = refl

  has-all : (xs : List Placed) → has_slot slot (map (ended start ops) xs ++ new) ≡ (has_slot slot xs || has_slot slot new)
  has-all [] = refl
  has-all (x ∷ xs) =
      or-same (nat_eq (ended start ops x).entry.slot slot) (nat_eq x.entry.slot slot) (has_slot slot (map (ended start ops) xs ++ new)) (has_slot slot xs || has_slot slot new)
      (ap (λ n. nat_eq n slot) (ended-slot start ops x)) (has-all xs)
      ∙ assoc (nat_eq x.entry.slot slot) (has_slot slot xs) (has_slot slot new)

has-more : (start : ℕ) (ops : List Op) (new : List Placed) (slot : ℕ) (xs : List Placed) → has_slot slot xs ≡ true → has_slot slot (map (ended start ops) xs ++ new) ≡ true
has-more start ops new slot [] has = absurd (false≢true has)
has-more start ops new slot (x ∷ xs) has =
    ⊎_elim
    (λ (here : nat_eq x.entry.slot slot ≡ true). grind (arith, ended-slot))
    (λ (off : nat_eq x.entry.slot slot ≡ false).
    let rest : has_slot slot xs ≡ true = ap (λ (b : Bool). b || has_slot slot xs) (sym off) ∙ has in
    ap (λ (b : Bool). b || has_slot slot (map (ended start ops) xs ++ new)) (ap (λ n. nat_eq n slot) (ended-slot start ops x) ∙ off) ∙ has-more start ops new slot xs rest)
    (cases_Bool (nat_eq x.entry.slot slot))

again-step : (c : ℕ) (f : Placed → Placed) (new : List Placed) (p : Placed) (kept placed : List Placed) (b : Bool)
    → (b ≡ true → may_go c (f p) (map f placed ++ new) ≡ true)
    → has_slot (f p).entry.slot (map f kept ++ new) ≡ has_slot (f p).entry.slot (map f placed ++ new)
    → pruned c (map f kept ++ new) ≡ pruned c (map f placed ++ new)
    → pruned c (map f (if b then kept else p ∷ kept) ++ new) ≡ pruned c (map f (p ∷ placed) ++ new)
again-step c f new p kept placed b goes has same = grind arith

again : (early late start : ℕ) (ops : List Op) (new placed : List Placed) → early ≤ late
    → pruned late (map (ended start ops) (pruned early placed) ++ new) ≡ pruned late (map (ended start ops) placed ++ new)
again early late start ops new [] before = refl
again early late start ops new (p ∷ placed) before =
    again-step late (ended start ops) new p (pruned early placed) placed (may_go early p placed)
    (λ goes. grind (arith, and_parts, ended-over, over-later, has-more, ended-slot))
    (has-mapped start ops new (ended start ops p).entry.slot (pruned early placed) placed (λ s. has-pruned early s placed))
    (again early late start ops new placed before)

-- a list that was pruned earlier, changed, and pruned again is the changed list pruned
pub pruned-again : (early late : ℕ) (placed : List Placed) (change : TableChange) → early ≤ late
    → pruned late (applied (pruned early placed) change) ≡ pruned late (applied placed change)
pruned-again early late placed change before =
    ap (λ (new : List Placed). pruned late (map (ended change.start change.ops) (pruned early placed) ++ new)) (new-pruned early placed change.start change.ops)
    ∙ again early late change.start change.ops (filter_map (placed_by placed change.start) change.ops) placed before
