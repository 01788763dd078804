-- Where the current entry of each slot goes round, all entries do.
use Rattle.std.proofs.Common.{◌≡◌, ℕ, ◌+◌, ◌-◌, ◌%◌, ◌<◌, ◌⊎◌, ◌&&◌, Bool, true, false, nat_eq, nat_le, Option, Some, IfSome, option_map, List, All, get_or, length, slice_get, refl, sym, ap, ◌∙◌, ⊎_elim, arith}
use Rattle.std.specs.Option.{option_map_or}
use Rattle.std.proofs.lemmas.Bool.{cases_order}
use Rattle.std.proofs.lemmas.Option.{slice_get-get_or}
use Rattle.requirement_table.specs.declared.entries.Placed.{Placed}
use Rattle.requirement_table.specs.Table.{GoesBefore, IsFreeAt, IsWellPlaced, is_over}
use Rattle.plan_check.specs.Places.{AreCurrent, AreSlotsBelow, IsCurrent}
use Rattle.plan_check.specs.PlanKept.{goes_round}

over-with : (end : Option ℕ) (deadline c : ℕ) (live : Bool) → option_map_or (λ from. nat_le from c) (option_map (λ e. e + deadline - 1) end) false ≡ true
    → option_map_or (λ free. nat_le free c) (option_map (λ e. e + deadline - 1) end) live ≡ true
over-with end deadline c live over = grind arith

-- an entry that is over goes round
over-round : (p : Placed) (c d : ℕ) → is_over c p ≡ true → goes_round c d p ≡ true
over-round p c d over = over-with p.end p.entry.deadline c (nat_le (p.origin + p.entry.phase) c && nat_eq (d % p.entry.period) 0) over

-- none stands behind one that goes round and is not over
none-behind : (q : Placed) (c d origin : ℕ) → goes_round c d q ≡ true → is_over c q ≡ false → IsFreeAt q origin → ⊥
none-behind q c d origin round not_over free = grind arith

round-at-place : (placed : List Placed) (place c d : ℕ) (q : Placed) → IfSome (slice_get placed place) (λ p. goes_round c d p ≡ true) → slice_get placed place ≡ Some q
    → goes_round c d q ≡ true
round-at-place placed place c d q rounds at = rw at at rounds

one-round : (placed : List Placed) (c d k place : ℕ) (e : Placed) → IsWellPlaced placed → k < length placed → IsCurrent placed c (get_or placed k e).entry.slot place
    → IfSome (slice_get placed place) (λ p. goes_round c d p ≡ true) → goes_round c d (get_or placed k e) ≡ true
one-round placed c d k place e well within current rounds =
    let p = get_or placed k e in
    let here : slice_get placed k ≡ Some p = slice_get-get_or placed k e within in
    ⊎_elim
    (λ (same : k ≡ place). round-at-place placed place c d p rounds (ap (λ j. slice_get placed j) (sym same) ∙ here))
    (λ (rest : (k < place) ⊎ (place < k)).
    ⊎_elim
    (λ (earlier : k < place). over-round p c d (current.passed k p earlier here refl))
    (λ (later : place < k).
    let q = get_or placed place e in
    let at : slice_get placed place ≡ Some q = slice_get-get_or placed place e (omega arith) in
    let goes_before : GoesBefore q p = well.in_order place k e later within in
    absurd (none-behind q c d p.origin (round-at-place placed place c d q rounds at) (current.not_over q at) (goes_before (current.of_slot q at))))
    rest)
    (cases_order k place)

pub all-round : (placed : List Placed) (c d slots : ℕ) (places : List ℕ) → IsWellPlaced placed → AreSlotsBelow slots placed → AreCurrent placed c slots places
    → ((slot : ℕ) → slot < slots → IfSome (slice_get placed (get_or places slot 0)) (λ p. goes_round c d p ≡ true)) → All (λ p. goes_round c d p ≡ true) placed
all-round placed c d slots places well below current rounds k e within =
    let slot = (get_or placed k e).entry.slot in
    let known = below k e within in
    one-round placed c d k (get_or places slot 0) e well within (current.each slot known) (rounds slot known)
