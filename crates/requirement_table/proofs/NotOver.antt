-- Entries that are over send nothing and release nothing any more.
use Rattle.std.proofs.Common.{get_or, ◌≡◌, ℕ, ◌+◌, ◌-◌, ◌<◌, ◌≤◌, Bool, true, false, not, cond, ◌&&◌, nat_eq, nat_le, Option, Some, None, IfSome, option_map, is_some, List, [], ◌∷◌, filter, All, slice_get, refl, ap, ◌∙◌, arith}
use Rattle.std.specs.List.{filter_map, list_any}
use Rattle.std.specs.Option.{option_map_or}
use Rattle.std.proofs.lemmas.Bool.{leb-true}
use Rattle.std.proofs.lemmas.List.Elements.{All-filter, All-head, All-tail}
use Rattle.std.proofs.lemmas.List.Kept.{AllPairs-filter}
use Rattle.requirement_table.specs.declared.entries.Placed.{Placed}
use Rattle.requirement_table.specs.Instance.{released_by}
use Rattle.requirement_table.specs.Table.{GoesBefore, IsInRange, IsWellPlaced, instance_in, is_over, near_of, not_over, releases_in, sendable}

pub not_over-well_placed : (c : ℕ) (placed : List Placed) → IsWellPlaced placed → IsWellPlaced (not_over c placed)
not_over-well_placed c placed well = record {
  in_range = All-filter (λ p. not (is_over c p)) IsInRange placed well.in_range;
  in_order = AllPairs-filter GoesBefore (λ p. not (is_over c p)) placed well.in_order;
}

over-sends : (end : Option ℕ) (deadline since release c : ℕ) → option_map_or (λ from. nat_le from since) (option_map (λ e. e + deadline - 1) end) false ≡ true
    → since ≤ c → IfSome end (λ e. release < e) → release ≤ c → c < release + deadline → ⊥
over-sends end deadline since release c over later exists released in_time = grind (arith, leb-true)

over-releases : (end : Option ℕ) (deadline since c : ℕ) → option_map_or (λ from. nat_le from since) (option_map (λ e. e + deadline - 1) end) false ≡ true
    → since ≤ c → 1 ≤ deadline → IfSome end (λ e. c < e) → ⊥
over-releases end deadline since c over later some exists = grind (arith, leb-true)

none_of : {X : Type 0} (o : Option X) → ((x : X) → o ≡ Some x → ⊥) → o ≡ None
none_of o wrong = grind arith

over-none : (slot since c : ℕ) (p : Placed) → since ≤ c → is_over since p ≡ true → sendable slot c p ≡ None
over-none slot since c p later over = grind (arith, none_of, over-sends)

over-silent : (slot since c : ℕ) (p : Placed) → since ≤ c → IsInRange p → is_over since p ≡ true → (nat_eq p.entry.slot slot && is_some (released_by p c)) ≡ false
over-silent slot since c p later range over = grind (arith, none_of, over-releases)

module _ {X Y : Type 0} (over : X → Bool) where
  filter_map-step : (h : X → Option Y) (x : X) (kept xs : List X) (b : Bool) → over x ≡ b → (over x ≡ true → h x ≡ None)
      → filter_map h kept ≡ filter_map h xs → filter_map h (cond (not b) (x ∷ kept) kept) ≡ filter_map h (x ∷ xs)
  filter_map-step h x kept xs b is gone same = grind arith

  pub filter_map-kept : (h : X → Option Y) (xs : List X) → ((x : X) → over x ≡ true → h x ≡ None)
      → filter_map h (filter (λ x. not (over x)) xs) ≡ filter_map h xs
  filter_map-kept h [] gone = refl
  filter_map-kept h (x ∷ xs) gone = filter_map-step h x (filter (λ y. not (over y)) xs) xs (over x) refl (gone x) (filter_map-kept h xs gone)

any-step : {X : Type 0} (over test : X → Bool) (x : X) (kept xs : List X) (b : Bool) → over x ≡ b → (over x ≡ true → test x ≡ false)
    → list_any test kept ≡ list_any test xs → list_any test (cond (not b) (x ∷ kept) kept) ≡ list_any test (x ∷ xs)
any-step over test x kept xs b is gone same = grind arith

any-kept : {X : Type 0} (over test : X → Bool) (xs : List X) → All (λ x. over x ≡ true → test x ≡ false) xs
    → list_any test (filter (λ x. not (over x)) xs) ≡ list_any test xs
any-kept over test [] gone = refl
any-kept over test (x ∷ xs) gone =
    any-step over test x (filter (λ y. not (over y)) xs) xs (over x) refl (All-head (λ y. over y ≡ true → test y ≡ false) x xs gone) (any-kept over test xs (All-tail (λ y. over y ≡ true → test y ≡ false) x xs gone))

-- from the cycle on by which entries are over, the others have the same instances
pub instance_in-not_over : (since : ℕ) (placed : List Placed) (slot c : ℕ) → since ≤ c
    → instance_in (not_over since placed) slot c ≡ instance_in placed slot c
instance_in-not_over since placed slot c later =
    ap (λ found. slice_get found 0) (filter_map-kept (is_over since) (sendable slot c) placed (λ p over. over-none slot since c p later over))

pub releases_in-not_over : (since : ℕ) (placed : List Placed) (slot c : ℕ) → IsWellPlaced placed → since ≤ c
    → releases_in (not_over since placed) c slot ≡ releases_in placed c slot
releases_in-not_over since placed slot c well later =
    any-kept (is_over since) (λ p. nat_eq p.entry.slot slot && is_some (released_by p c)) placed
    (λ i d within over. over-silent slot since c _ later (well.in_range i d within) over)

-- an entry that begins later has nothing to send or to release before
later-none : (slot until c : ℕ) (p : Placed) → c < until → nat_le until p.origin ≡ true → sendable slot c p ≡ None
later-none slot until c p before later = grind (arith, leb-true, none_of)

later-silent : (slot until c : ℕ) (p : Placed) → c < until → nat_le until p.origin ≡ true → (nat_eq p.entry.slot slot && is_some (released_by p c)) ≡ false
later-silent slot until c p before later = grind (arith, leb-true, none_of)

pub near_of-well_placed : (since until : ℕ) (placed : List Placed) → IsWellPlaced placed → IsWellPlaced (near_of since until placed)
near_of-well_placed since until placed well =
    let left = not_over-well_placed since placed well in
    record {
      in_range = All-filter (λ p. not (nat_le until p.origin)) IsInRange (not_over since placed) left.in_range;
      in_order = AllPairs-filter GoesBefore (λ p. not (nat_le until p.origin)) (not_over since placed) left.in_order;
    }

-- between two cycles the entries that are not over by the first and begin before the second have the same instances
pub instance_in-near_of : (since until : ℕ) (placed : List Placed) (slot c : ℕ) → since ≤ c → c < until
    → instance_in (near_of since until placed) slot c ≡ instance_in placed slot c
instance_in-near_of since until placed slot c from before =
    ap (λ found. slice_get found 0)
    (filter_map-kept (λ p. nat_le until p.origin) (sendable slot c) (not_over since placed) (λ p later. later-none slot until c p before later))
    ∙ instance_in-not_over since placed slot c from

pub releases_in-near_of : (since until : ℕ) (placed : List Placed) (slot c : ℕ) → IsWellPlaced placed → since ≤ c → c < until
    → releases_in (near_of since until placed) c slot ≡ releases_in placed c slot
releases_in-near_of since until placed slot c well from before =
    any-kept (λ p. nat_le until p.origin) (λ p. nat_eq p.entry.slot slot && is_some (released_by p c)) (not_over since placed)
    (λ i d within later. later-silent slot until c (get_or (not_over since placed) i d) before later)
    ∙ releases_in-not_over since placed slot c well from
