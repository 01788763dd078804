-- What the flagged slots of a cycle cost together, entry by entry.
use Rattle.std.proofs.Common.{◌≡◌, ℕ, zero, suc, ◌+◌, ◌*◌, ◌<◌, ◌≤◌, ◌&&◌, Bool, true, false, cond, eqb, Option, Some, None, IfSome, is_some, List, [], ◌∷◌, length, drop, get_or, slice_get, Contains, refl, sym, ap, ◌∙◌, arith, subst}
use Rattle.std.specs.List.{filter_map, cons_option}
use Rattle.std.specs.Option.{option_map, option_map_or}
use Rattle.std.proofs.lemmas.Bool.{eqb-true}
use Rattle.std.proofs.lemmas.List.Elements.{All-contains}
use Rattle.std.proofs.Math.Seq.{drop-cons}
use Rattle.requirement_table.specs.declared.entries.Placed.{Placed}
use Rattle.requirement_table.specs.Instance.{Instance, MaySend, instance_of, worst, worst_of}
use Rattle.bit_sets.specs.Sets.{most_slots}
use Rattle.requirement_table.specs.Table.{IsInRange, IsWellPlaced, instance_in, sendable, width_in, worst_in}
use Rattle.requirement_table.proofs.Shared.{MaySend-from_instance, instance_in-not_over, instance_in-sound, one_instance}
use Rattle.bit_sets.proofs.Shared.{sum_where-costs, sum_where-most, sum_where-add, sum_where-one}
use Rattle.change_protocol.specs.Pruned.{pruned}
use Rattle.change_protocol.proofs.Shared.{not_over-pruned}
use Rattle.bus_trace.specs.Logged.{cost_in}

-- Sums

-- Entries

slice_get-contained : (rest : List Placed) (k : ℕ) (q : Placed) → k < length rest → get_or rest k q ≡ q
    → slice_get rest k ≡ Some q
slice_get-contained [] k q within here = absurd (omega arith)
slice_get-contained (p ∷ rest) zero q within here = ap (λ x. Some x) here
slice_get-contained (p ∷ rest) (suc k) q within here = slice_get-contained rest k q (omega arith) here

-- what is in a list behind its first entry
pub well-tail : (p : Placed) (rest : List Placed) → IsWellPlaced (p ∷ rest) → IsWellPlaced rest
well-tail p rest well = record {
  in_range = λ k d within. well.in_range (suc k) d (omega arith);
  in_order = λ i j d before within. well.in_order (suc i) (suc j) d (omega arith) (omega arith);
}

pub well-head : (p : Placed) (rest : List Placed) → IsWellPlaced (p ∷ rest) → IsInRange p
well-head p rest well = well.in_range 0 p (omega arith)

worst-of : (o : Option Instance) → IfSome o (λ i. worst_of i ≤ worst 8) → option_map_or worst_of o 0 ≤ worst 8
worst-of None few = omega arith
worst-of (Some i) few = few

worst_in-le : (placed : List Placed) (c slot : ℕ) → IsWellPlaced placed → worst_in placed c slot ≤ worst 8
worst_in-le placed c slot well = by (instance_in placed slot c) (instance_in-sound placed slot c)
  where
    by : (o : Option Instance)
        → IfSome o (λ i. Contains placed i.placed × (i.placed.entry.slot ≡ slot) × MaySend i.placed i.number c)
        → option_map_or worst_of o 0 ≤ worst 8
    by None sound = omega arith
    by (Some i) sound =
        let range = All-contains IsInRange placed i.placed well.in_range sound.0 in
        let few = range.entry.length in
        omega arith

-- the slots of a well placed list cost no more together than all slots do at most
pub width-le : (placed : List Placed) (c : ℕ) (flagged : ℕ → Bool) → IsWellPlaced placed
    → width_in placed c flagged ≤ most_slots * worst 8
width-le placed c flagged well =
    let all = sum_where-most most_slots (worst 8) flagged (worst_in placed c) (λ s below. worst_in-le placed c s well) in
    omega arith

-- the cost of an entry, whichever slot it has
abbrev own : Placed → ℕ → ℕ
own p c = cond (is_some (instance_of p c)) (worst p.entry.length) 0

cond-and : (a b : Bool) (x : ℕ) → cond (a && b) x 0 ≡ cond a (cond b x 0) 0
cond-and true b x = refl
cond-and false b x = refl

-- where the first entry may send, no later one of its slot may
none-later : (p : Placed) (rest : List Placed) (c k : ℕ) → IsWellPlaced (p ∷ rest) → instance_of p c ≡ Some k
    → instance_in rest p.entry.slot c ≡ None
none-later p rest c k well sends = by (instance_in rest p.entry.slot c) (instance_in-sound rest p.entry.slot c)
  where
    by : (o : Option Instance)
        → IfSome o (λ i. Contains rest i.placed × (i.placed.entry.slot ≡ p.entry.slot) × MaySend i.placed i.number c)
        → o ≡ None
    by None sound = refl
    by (Some i) sound =
        let there : slice_get (p ∷ rest) (suc sound.0.0) ≡ Some i.placed = slice_get-contained rest sound.0.0 i.placed sound.0.1 sound.0.2 in
        let same = one_instance (p ∷ rest) well 0 (suc sound.0.0) k i.number c p i.placed refl there (sym sound.1) (MaySend-from_instance p k c sends) sound.2 in
        let none : ⊥ = omega (arith, same.0) in
        absurd none

-- the first entry's cost, and that of the others
worst_in-step : (p : Placed) (rest : List Placed) (c slot : ℕ) → IsWellPlaced (p ∷ rest)
    → worst_in (p ∷ rest) c slot ≡ cond (eqb p.entry.slot slot) (own p c) 0 + worst_in rest c slot
worst_in-step p rest c slot well = by (eqb p.entry.slot slot) (instance_of p c) refl refl
  where
    by : (here : Bool) (number : Option ℕ) → eqb p.entry.slot slot ≡ here → instance_of p c ≡ number
        → option_map_or worst_of (slice_get (cons_option (cond here (option_map (λ k. record { placed = p; number = k }) number) None) (filter_map (sendable slot c) rest)) 0) 0
        ≡ cond here (cond (is_some number) (worst p.entry.length) 0) 0 + worst_in rest c slot
    by false number is sends = omega arith
    by true None is sends = omega arith
    by true (Some k) is sends =
        let none : instance_in rest slot c ≡ None = subst (λ s. instance_in rest s c ≡ None) (eqb-true p.entry.slot slot is) (none-later p rest c k well sends) in
        let nothing : worst_in rest c slot ≡ 0 = ap (λ o. option_map_or worst_of o 0) none in
        omega arith

pub width-step : (p : Placed) (rest : List Placed) (c : ℕ) (flagged : ℕ → Bool) → IsWellPlaced (p ∷ rest)
    → width_in (p ∷ rest) c flagged ≡ cost_in c flagged p + width_in rest c flagged
width-step p rest c flagged well =
    let range = well-head p rest well in
    let known : p.entry.slot < most_slots = range.entry.slot in
    let split = sum_where-add most_slots flagged (λ s. cond (eqb p.entry.slot s) (own p c) 0) (worst_in rest c) (worst_in (p ∷ rest) c)
    (λ s below. worst_in-step p rest c s well) in
    let one = (sum_where-one most_slots p.entry.slot (own p c) flagged).1 known in
    let cost = cond-and (flagged p.entry.slot) (is_some (instance_of p c)) (worst p.entry.length) in
    split ∙ ap (λ x. x + width_in rest c flagged) (one ∙ sym cost)

-- the entries from a place on
pub width-next : (placed : List Placed) (i : ℕ) (d : Placed) (c : ℕ) (flagged : ℕ → Bool) → i < length placed
    → IsWellPlaced (drop i placed)
    → (width_in (drop i placed) c flagged ≡ cost_in c flagged (get_or placed i d) + width_in (drop (i + 1) placed) c flagged)
    × IsWellPlaced (drop (i + 1) placed)
width-next placed i d c flagged within well =
    let p : Placed = get_or placed i d in
    let next : suc i ≡ i + 1 = omega arith in
    let rest : drop i placed ≡ p ∷ drop (i + 1) placed = drop-cons placed i d within ∙ ap (λ n. p ∷ drop n placed) next in
    let all = subst IsWellPlaced rest well in (
      ap (λ l. width_in l c flagged) rest ∙ width-step p (drop (i + 1) placed) c flagged all,
      well-tail p (drop (i + 1) placed) all,
    )

pub width-none : (c : ℕ) (flagged : ℕ → Bool) → width_in [] c flagged ≡ 0
width-none c flagged = let none = sum_where-most most_slots 0 flagged (worst_in [] c) (λ s below. omega arith) in omega arith

-- lists with the same instances in a cycle
width-same : (left placed : List Placed) (c : ℕ) (flagged : ℕ → Bool)
    → ((slot : ℕ) → instance_in left slot c ≡ instance_in placed slot c)
    → width_in left c flagged ≡ width_in placed c flagged
width-same left placed c flagged same =
    sum_where-costs most_slots flagged (worst_in left c) (worst_in placed c) (λ s below _. ap (λ o. option_map_or worst_of o 0) (same s))

-- such are a list and the same list pruned by that cycle or an earlier one
pub width-pruned : (by c : ℕ) (placed : List Placed) (flagged : ℕ → Bool) → by ≤ c → width_in (pruned by placed) c flagged ≡ width_in placed c flagged
width-pruned by c placed flagged before =
    width-same (pruned by placed) placed c flagged (λ slot.
    sym (instance_in-not_over c (pruned by placed) slot c (omega arith))
    ∙ ap (λ l. instance_in l slot c) (not_over-pruned by c placed before)
    ∙ instance_in-not_over c placed slot c (omega arith))
