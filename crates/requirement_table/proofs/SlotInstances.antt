-- The instances of a slot in a list of placed entries.
use Rattle.std.proofs.Common.{◌≡◌, ℕ, zero, suc, ◌<◌, ◌≤◌, ◌&&◌, true, Option, Some, None, IfSome, List, [], ◌∷◌, Any, Contains, slice_get, nat_eq, nat_lt, is_some, refl, sym, ap, ◌∙◌, arith, ⊎_elim}
use Rattle.std.specs.List.{filter_map, cons_option}
use Rattle.std.proofs.lemmas.Bool.{cases_order, eq-eqb, eqb-true, cond-true, and_parts, and_from, lt-ltb}
use Rattle.std.proofs.lemmas.Option.{slice_get_within, get_or_from_slice_get, same_Some, none-some, IfSome_then}
use Rattle.std.proofs.lemmas.List.Folds.{Any-from_list_any, list_any-from_Any}
use Rattle.requirement_table.specs.declared.entries.Placed.{Placed}
use Rattle.requirement_table.specs.Instance.{Instance, MaySend, IsReleasedIn, released_by}
use Rattle.bit_sets.specs.Sets.{has_bit, most_slots}
use Rattle.requirement_table.specs.Table.{IsInRange, IsFreeAt, IsWellPlaced, sendable, instance_in, releases_in, released_in}
use Rattle.bit_sets.proofs.Shared.{has_bit-set_of}
use Rattle.requirement_table.proofs.Latest.{latest-of_sent, instance_of-sent, released_by-released}

apart : (p q : Placed) (k m c : ℕ) → IsFreeAt p q.origin → MaySend p k c → MaySend q m c → ⊥
apart p q k m c free sends other = grind arith

-- the element at a place, as `All` reads it
in_range-at : (placed : List Placed) (i : ℕ) (p : Placed) → IsWellPlaced placed → slice_get placed i ≡ Some p → IsInRange p
in_range-at placed i p well at = rw (get_or_from_slice_get placed i p p at) at (well.in_range i p (slice_get_within placed i p at))

free-at : (placed : List Placed) (i j : ℕ) (p q : Placed) → IsWellPlaced placed → slice_get placed i ≡ Some p → slice_get placed j ≡ Some q → i < j → p.entry.slot ≡ q.entry.slot → IsFreeAt p q.origin
free-at placed i j p q well at_i at_j before same = grind (arith, slice_get_within, get_or_from_slice_get)

same_number : (p q : Placed) (k m c : ℕ) → p ≡ q → p.entry.deadline ≤ p.entry.period → MaySend p k c → MaySend q m c → k ≡ m
same_number p q k m c same period sends other = grind (arith, latest-of_sent)

-- in a well placed list at most one instance of a slot may be sent in a cycle
pub one_instance : (placed : List Placed) → IsWellPlaced placed → (i j k m c : ℕ) (p q : Placed) → slice_get placed i ≡ Some p → slice_get placed j ≡ Some q → p.entry.slot ≡ q.entry.slot → MaySend p k c → MaySend q m c → (i ≡ j) × (k ≡ m)
one_instance placed well i j k m c p q at_i at_j same sends other =
    ⊎_elim
    (λ (here : i ≡ j).
    let equal = same_Some p q (sym at_i ∙ ap (slice_get placed) here ∙ at_j) in
    (here, same_number p q k m c equal (in_range-at placed i p well at_i).entry.deadline sends other))
    (⊎_elim
    (λ (before : i < j). absurd (apart p q k m c (free-at placed i j p q well at_i at_j before same) sends other))
    (λ (behind : j < i). absurd (apart q p m k c (free-at placed j i q p well at_j at_i behind (sym same)) other sends)))
    (cases_order i j)

-- an entry of another slot, or with nothing to send, adds nothing
sendable-sent : (p : Placed) (k c : ℕ) → p.entry.deadline ≤ p.entry.period → MaySend p k c → sendable p.entry.slot c p ≡ Some (record { placed = p; number = k })
sendable-sent p k c period sends = grind (arith, instance_of-sent, cond-true, eq-eqb)

-- what one entry adds is its own instance, and may be sent
record IsSentBy (slot c : ℕ) (p : Placed) (i : Instance) : Type 0 where
  placed : i.placed ≡ p
  slot_is : p.entry.slot ≡ slot
  sends : MaySend p i.number c

sendable-sound : (slot c : ℕ) (p : Placed) (i : Instance) → sendable slot c p ≡ Some i → IsSentBy slot c p i
sendable-sound slot c p i found = grind (arith, eqb-true)

-- the place `i` and the number `k` are the only ones with an instance of the slot to send
abbrev IsOnly : List Placed → ℕ → ℕ → ℕ → ℕ → Type 0
IsOnly placed slot c i k = (j m : ℕ) (q : Placed) → slice_get placed j ≡ Some q → q.entry.slot ≡ slot → MaySend q m c → (i ≡ j) × (k ≡ m)

found-here : (q : Placed) (rest : List Placed) (slot c i k : ℕ) (p : Placed) (x : Instance) → sendable slot c q ≡ Some x → slice_get (q ∷ rest) i ≡ Some p → IsOnly (q ∷ rest) slot c i k → x ≡ record { placed = p; number = k }
found-here q rest slot c i k p x adds at only =
    let sent = sendable-sound slot c q x adds in
    let same = only 0 x.number q refl sent.slot_is sent.sends in
    grind (arith, same_Some, slice_get)

found-later : (q : Placed) (rest : List Placed) (slot c i k : ℕ) (p : Placed) → sendable slot c q ≡ None → slice_get (q ∷ rest) i ≡ Some p → p.entry.slot ≡ slot → p.entry.deadline ≤ p.entry.period → MaySend p k c → IsOnly (q ∷ rest) slot c i k → ((j : ℕ) → slice_get rest j ≡ Some p → IsOnly rest slot c j k → instance_in rest slot c ≡ Some (record { placed = p; number = k })) → instance_in rest slot c ≡ Some (record { placed = p; number = k })
found-later q rest slot c zero k p adds at slot_is period sends only later = grind (arith, same_Some, sendable-sent, none-some)
found-later q rest slot c (suc i) k p adds at slot_is period sends only later =
    later i at (λ j m other there same_slot also. let same = only (suc j) m other there same_slot also in (omega arith, same.1))

found-step : (q : Placed) (rest : List Placed) (slot c i k : ℕ) (p : Placed) (first : Option Instance) → sendable slot c q ≡ first → slice_get (q ∷ rest) i ≡ Some p → p.entry.slot ≡ slot → p.entry.deadline ≤ p.entry.period → MaySend p k c → IsOnly (q ∷ rest) slot c i k → ((j : ℕ) → slice_get rest j ≡ Some p → IsOnly rest slot c j k → instance_in rest slot c ≡ Some (record { placed = p; number = k })) → slice_get (cons_option first (filter_map (sendable slot c) rest)) 0 ≡ Some (record { placed = p; number = k })
found-step q rest slot c i k p (Some x) adds at slot_is period sends only later = ap (λ y. Some y) (found-here q rest slot c i k p x adds at only)
found-step q rest slot c i k p None adds at slot_is period sends only later = found-later q rest slot c i k p adds at slot_is period sends only later

first_found : (placed : List Placed) (slot c i k : ℕ) (p : Placed) → slice_get placed i ≡ Some p → p.entry.slot ≡ slot → p.entry.deadline ≤ p.entry.period → MaySend p k c → IsOnly placed slot c i k → instance_in placed slot c ≡ Some (record { placed = p; number = k })
first_found [] slot c i k p at slot_is period sends only = absurd (none-some p at)
first_found (q ∷ rest) slot c i k p at slot_is period sends only =
    found-step q rest slot c i k p (sendable slot c q) refl at slot_is period sends only
    (λ j there alone. first_found rest slot c j k p there slot_is period sends alone)

-- in a well placed list the instance that may be sent is the one that is found
pub instance_in-found : (placed : List Placed) → IsWellPlaced placed → (i k c : ℕ) (p : Placed) → slice_get placed i ≡ Some p → MaySend p k c → instance_in placed p.entry.slot c ≡ Some (record { placed = p; number = k })
instance_in-found placed well i k c p at sends =
    first_found placed p.entry.slot c i k p at refl (in_range-at placed i p well at).entry.deadline sends
    (λ j m q there same also. one_instance placed well i j k m c p q at there (sym same) sends also)

-- an instance that is found is one of the list's, of the slot, and may be sent
abbrev pub IsSentFrom : List Placed → ℕ → ℕ → Instance → Type 0
IsSentFrom placed slot c i = Contains placed i.placed × (i.placed.entry.slot ≡ slot) × MaySend i.placed i.number c

sound-here : (q : Placed) (rest : List Placed) (slot c : ℕ) (x : Instance) → IsSentBy slot c q x → IsSentFrom (q ∷ rest) slot c x
sound-here q rest slot c x sent = grind arith

sound-later : (q : Placed) (rest : List Placed) (slot c : ℕ) (x : Instance) → IsSentFrom rest slot c x → IsSentFrom (q ∷ rest) slot c x
sound-later q rest slot c x sent = ((suc sent.0.0, omega (arith, sent.0.1), sent.0.2), sent.1, sent.2)

sound-step : (q : Placed) (rest : List Placed) (slot c : ℕ) (first : Option Instance) → sendable slot c q ≡ first → IfSome (instance_in rest slot c) (IsSentFrom rest slot c) → IfSome (slice_get (cons_option first (filter_map (sendable slot c) rest)) 0) (IsSentFrom (q ∷ rest) slot c)
sound-step q rest slot c (Some x) adds later = sound-here q rest slot c x (sendable-sound slot c q x adds)
sound-step q rest slot c None adds later = IfSome_then (instance_in rest slot c) later (sound-later q rest slot c)

pub instance_in-sound : (placed : List Placed) (slot c : ℕ) → IfSome (instance_in placed slot c) (IsSentFrom placed slot c)
instance_in-sound [] slot c = tt
instance_in-sound (q ∷ rest) slot c = sound-step q rest slot c (sendable slot c q) refl (instance_in-sound rest slot c)

-- an entry of the slot releases an instance in the cycle
abbrev pub IsReleasedOf : ℕ → ℕ → Placed → Type 0
IsReleasedOf slot c p = (p.entry.slot ≡ slot) × ((k : ℕ) × IsReleasedIn p k c)

number-of : (o : Option ℕ) → is_some o ≡ true → (k : ℕ) × (o ≡ Some k)
number-of o is = grind arith

released-parts : (slot c : ℕ) (p : Placed) → (nat_eq p.entry.slot slot && is_some (released_by p c)) ≡ true → IsReleasedOf slot c p
released-parts slot c p test = grind (arith, and_parts, is_some, number-of, eqb-true)

released-test : (slot c : ℕ) (p : Placed) → 1 ≤ p.entry.period → IsReleasedOf slot c p → (nat_eq p.entry.slot slot && is_some (released_by p c)) ≡ true
released-test slot c p period released = grind (arith, and_from, eq-eqb, is_some, released_by-released)

pub released_in-sound : (placed : List Placed) (slot c : ℕ) → has_bit (released_in placed c) slot ≡ true → Any (IsReleasedOf slot c) placed
released_in-sound placed slot c contains =
    let parts = and_parts (nat_lt slot most_slots) (releases_in placed c slot) (sym (has_bit-set_of most_slots (releases_in placed c) slot) ∙ contains) in
    let any = Any-from_list_any (λ p. nat_eq p.entry.slot slot && is_some (released_by p c)) placed parts.1 in
    (any.0, any.1, any.2, any.3, released-parts slot c any.1 any.4)

pub released_in-complete : (placed : List Placed) (slot c : ℕ) → IsWellPlaced placed → Any (IsReleasedOf slot c) placed → has_bit (released_in placed c) slot ≡ true
released_in-complete placed slot c well any = grind (arith, released-test, has_bit-set_of, and_from, lt-ltb, list_any-from_Any, is_some)
