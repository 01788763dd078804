-- The placed entries of a list after a change of it.
use Rattle.std.proofs.Common.{◌≡◌, ℕ, zero, suc, ◌+◌, ◌-◌, ◌≤◌, true, Option, Some, None, IfSome, IsSomeAnd, is_none, List, [], ◌∷◌, ◌++◌, length, slice_get, map, All, arith}
use Rattle.std.specs.List.{filter_map}
use Rattle.std.specs.Option.{option_map_or}
use Rattle.std.proofs.lemmas.Bool.{and_parts}
use Rattle.std.proofs.lemmas.Option.{IfSome_then, get_or_from_slice_get, same_Some, slice_get_within}
use Rattle.requirement_table.specs.declared.entries.Placed.{Placed}
use Rattle.requirement_table.specs.Table.{IsInRange}
use Rattle.change_protocol.specs.declared.operations.Op.{Op}
use Rattle.change_protocol.specs.declared.operations.Change.{Change as TableChange}
use Rattle.change_protocol.specs.Applied.{IsChangedAt, IsKept, IsNewFrom, applied, ended, live_in, lives_in, placed_by}
use Rattle.change_protocol.proofs.Live.{find-kept}
use Rattle.change_protocol.proofs.Pairs.{all-filter_map}

pub none-from_test : (o : Option ℕ) → is_none o ≡ true → o ≡ None
none-from_test o e = grind arith

pub ended-kept : (start : ℕ) (ops : List Op) (p : Placed) → IsKept start p (ended start ops p)
ended-kept start ops p = grind (arith, is_none, none-from_test, and_parts)

changed-map : (start : ℕ) (ops : List Op) (old behind : List Placed) → All (IsNewFrom start) behind → IsChangedAt start old (map (ended start ops) old ++ behind)
changed-map start ops [] behind new = new
changed-map start ops (p ∷ old) behind new = (ended-kept start ops p, changed-map start ops old behind new)

origin-after : (live : Option Placed) (start : ℕ) → IfSome live IsInRange → start ≤ option_map_or (λ p. start + p.entry.deadline - 1) live start
origin-after live start range = grind arith

pub live-in_range : (placed : List Placed) (slot : ℕ) → All IsInRange placed → IfSome (live_in placed slot) IsInRange
live-in_range placed slot all = IfSome_then (live_in placed slot) (find-kept IsInRange (lives_in slot) placed all) (λ p both. both.0)

placed-new : (placed : List Placed) (start : ℕ) → All IsInRange placed → (op : Op) → IfSome (placed_by placed start op) (IsNewFrom start)
placed-new placed start all op = grind (arith, origin-after, live-in_range)

-- what a change makes of a list of placed entries came from it by a change with that start
pub changed-applied : (placed : List Placed) (change : TableChange) → All IsInRange placed → IsChangedAt change.start placed (applied placed change)
changed-applied placed change all =
    changed-map change.start change.ops placed (filter_map (placed_by placed change.start) change.ops)
    (all-filter_map (IsNewFrom change.start) (placed_by placed change.start) change.ops (λ k d within. placed-new placed change.start all _))

nothing-at : (place : ℕ) (p : Placed) → slice_get {X = Placed} [] place ≡ Some p → ⊥
nothing-at place p at = let within = slice_get_within [] place p at in absurd (omega arith)

-- each old entry stands in its place
pub kept-at : (start place : ℕ) (old new : List Placed) (p : Placed) → IsChangedAt start old new → slice_get old place ≡ Some p → IsSomeAnd (slice_get new place) (IsKept start p)
kept-at start place [] new p changed at = absurd (nothing-at place p at)
kept-at start place (q ∷ old) [] p changed at = absurd changed
kept-at start zero (q ∷ old) (r ∷ new) p changed at = let same : q ≡ p = same_Some q p at in rw (← same) changed.0
kept-at start (suc place) (q ∷ old) (r ∷ new) p changed at = kept-at start place old new p changed.1 at

-- and those behind the old ones are new
pub new-at : (start place : ℕ) (old new : List Placed) (q : Placed) → IsChangedAt start old new → length old ≤ place → slice_get new place ≡ Some q → IsNewFrom start q
new-at start place [] new q changed behind at = rw (get_or_from_slice_get new place q q at) at (changed place q (slice_get_within new place q at))
new-at start place (p ∷ old) [] q changed behind at = absurd changed
new-at start zero (p ∷ old) (r ∷ new) q changed behind at = absurd (omega arith)
new-at start (suc place) (p ∷ old) (r ∷ new) q changed behind at = new-at start place old new q changed.1 (omega arith) at
