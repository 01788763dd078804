-- The current entries of slots: what they send is what their slots send.
use Rattle.std.proofs.Common.{◌≡◌, ℕ, ◌+◌, ◌-◌, ◌<◌, ◌≤◌, true, false, Option, Some, None, IfSome, IsSomeAnd, option_map, List, Contains, slice_get, length, get_or, set, refl, sym, ap, ◌∙◌, ⊎_elim, nat_le, arith, get_or-set_other, get_or-set_same}
use Rattle.std.specs.Option.{option_and_then, option_map_or}
use Rattle.std.proofs.lemmas.Bool.{cases_lt, cases_order, le-leb, leb-true}
use Rattle.std.proofs.lemmas.Option.{get_or_from_slice_get, none-some, same_Some, slice_get-get_or, slice_get_within}
use Rattle.requirement_table.specs.declared.entries.Placed.{Placed}
use Rattle.requirement_table.specs.Instance.{Instance, MaySend, instance_of, release_of}
use Rattle.requirement_table.specs.Table.{IsFreeAt, IsWellPlaced, free_from, instance_in, is_over}
use Rattle.requirement_table.proofs.Shared.{IsFound, MaySend-from_instance, found-in, instance_in-found}
use Rattle.plan_check.specs.Places.{AreCurrent, ArePassed, AreSlotsBelow, IsCurrent, release_by, released_at}

over-sends : (end : Option ℕ) (deadline release c : ℕ) → option_map_or (λ from. nat_le from c) (option_map (λ e. e + deadline - 1) end) false ≡ true
    → IfSome end (λ e. release < e) → release ≤ c → c < release + deadline → ⊥
over-sends end deadline release c over exists released in_time = grind (arith, leb-true)

-- an entry that is over sends nothing
over-none : (p : Placed) (k c : ℕ) → is_over c p ≡ true → MaySend p k c → ⊥
over-none p k c over sends = over-sends p.end p.entry.deadline (release_of p k) c over sends.exists sends.released sends.in_time

free-over : (free : Option ℕ) (origin c : ℕ) → IsSomeAnd free (λ from. from ≤ origin) → origin ≤ c → option_map_or (λ from. nat_le from c) free false ≡ true
free-over free origin c h0 later = grind (arith, le-leb)

over-later : (free : Option ℕ) (c : ℕ) → option_map_or (λ from. nat_le from c) free false ≡ true → option_map_or (λ from. nat_le from (c + 1)) free false ≡ true
over-later free c over = grind (arith, leb-true, le-leb)

free-at : (placed : List Placed) (i j : ℕ) (p q : Placed) → IsWellPlaced placed → slice_get placed i ≡ Some p → slice_get placed j ≡ Some q → i < j
    → p.entry.slot ≡ q.entry.slot → IsFreeAt p q.origin
free-at placed i j p q well at_i at_j before same = grind (arith, slice_get_within, get_or_from_slice_get)

none-of : {X : Type 0} (o : Option X) → ((x : X) → o ≡ Some x → ⊥) → o ≡ None
none-of o never = grind arith

place-of : (placed : List Placed) (p : Placed) (stands : Contains placed p) → slice_get placed stands.0 ≡ Some p
place-of placed p stands = slice_get-get_or placed stands.0 p stands.1 ∙ ap (λ q. Some q) stands.2

module _ (placed : List Placed) (c slot place : ℕ) (well : IsWellPlaced placed) (current : IsCurrent placed c slot place) where
  -- an instance of the slot is of an entry at the place or behind it
  not-before : (i : Instance) → (found : IsFound placed slot c i) → found.stands.0 < place → ⊥
  not-before i found before =
      over-none i.placed i.number c (current.passed found.stands.0 i.placed before (place-of placed i.placed found.stands) found.of_slot) found.sends

  pub current-end : length placed ≤ place → instance_in placed slot c ≡ None
  current-end behind =
      none-of (instance_in placed slot c) (λ i is.
      let found = found-in placed slot c i well is in
      not-before i found (omega arith))

  current-none : (p : Placed) → slice_get placed place ≡ Some p → instance_of p c ≡ None → instance_in placed slot c ≡ None
  current-none p at nothing =
      none-of (instance_in placed slot c) (λ i is.
      let found = found-in placed slot c i well is in
      let there = place-of placed i.placed found.stands in
      ⊎_elim
      (λ (here : found.stands.0 ≡ place). grind (arith, same_Some, slice_get, none-some))
      (⊎_elim
      (λ (before : found.stands.0 < place). not-before i found before)
      (λ (behind : place < found.stands.0).
      let free = free-at placed place found.stands.0 p i.placed well at there behind (current.of_slot p at ∙ sym found.of_slot) in
      let over : is_over c p ≡ true = free-over (free_from p) i.placed.origin c free (omega arith) in
      let open' = current.not_over p at in
      absurd (cc)))
      (cases_order found.stands.0 place))

  current-some : (p : Placed) (k : ℕ) → slice_get placed place ≡ Some p → instance_of p c ≡ Some k
      → instance_in placed slot c ≡ Some (record { placed = p; number = k })
  current-some p k at number =
      ap (λ s. instance_in placed s c) (sym (current.of_slot p at))
      ∙ instance_in-found placed well place k c p at (MaySend-from_instance p k c number)

  by-number : (p : Placed) (o : Option ℕ) → slice_get placed place ≡ Some p → instance_of p c ≡ o
      → instance_in placed slot c ≡ option_map (λ k. record { placed = p; number = k }) o
  by-number p o at number = grind (arith, current-some, current-none)

  -- what the entry at the place sends is what the slot sends
  pub current-instance : (p : Placed) → slice_get placed place ≡ Some p
      → instance_in placed slot c ≡ option_map (λ k. record { placed = p; number = k }) (instance_of p c)
  current-instance p at = by-number p (instance_of p c) at refl

  -- without an entry at the place nothing is sent
  pub current-nothing : slice_get placed place ≡ None → instance_in placed slot c ≡ None
  current-nothing at =
      current-end (grind (arith, none-within, cases_lt))
    where
      none-within : (xs : List Placed) (i : ℕ) → i < length xs → slice_get xs i ≡ None → ⊥
      none-within xs i within none =
          let d : Placed = record { entry = record { slot = 0; node = 0; length = 0; phase = 0; period = 0; deadline = 0; priority = 0 }; origin = 0; end = None } in
          none-some (get_or xs i d) (sym none ∙ slice_get-get_or xs i d within)

  release-with : (o : Option Placed) → slice_get placed place ≡ o → option_and_then (release_by c) o ≡ option_map released_at (instance_in placed slot c)
  release-with (Some p) at = sym (ap (option_map released_at) (current-instance p at) ∙ mapped (instance_of p c))
    where
      mapped : (o : Option ℕ) → option_map released_at (option_map (λ k. record { placed = p; number = k }) o)
          ≡ option_map (λ k. released_at (record { placed = p; number = k })) o
      mapped o = grind arith
  release-with None at = sym (ap (option_map released_at) (current-nothing at))

  -- the release of what the entry at the place sends
  pub current-release : option_and_then (release_by c) (slice_get placed place) ≡ option_map released_at (instance_in placed slot c)
  current-release = release-with (slice_get placed place) refl

-- what is over by a cycle is over by the next one
pub passed-later : (placed : List Placed) (c slots : ℕ) (places : List ℕ) → AreCurrent placed c slots places → ArePassed placed (c + 1) slots places
passed-later placed c slots places current = grind (arith, over-later)

-- a table is filled one place further
pub filled-next : {X : Type 0} (P : ℕ → X → Type 0) (table : List X) (k : ℕ) (x d : X) → k < length table → ((s : ℕ) → s < k → P s (get_or table s d)) → P k x
    → (s : ℕ) → s < k + 1 → P s (get_or (set table k x) s d)
filled-next P table k x d within before here s low = grind (arith, get_or-set_same, get_or-set_other)

-- the places are those of the current entries one slot further
pub places-next : (placed : List Placed) (c slots : ℕ) (places : List ℕ) (k i x : ℕ) → i ≡ k → k < length places
    → ((s : ℕ) → s < k → IsCurrent placed c s (get_or places s 0)) → IsCurrent placed c k x
    → (s : ℕ) → s < k + 1 → IsCurrent placed c s (get_or (set places i x) s 0)
places-next placed c slots places k i x same within before here =
    rw same (filled-next (λ s place. IsCurrent placed c s place) places k x 0 within before here)

-- no instance is of a slot above those of the entries
pub absent-instance : (placed : List Placed) (c slots slot : ℕ) → IsWellPlaced placed → AreSlotsBelow slots placed → slots ≤ slot → instance_in placed slot c ≡ None
absent-instance placed c slots slot well below above =
    none-of (instance_in placed slot c) (λ i is.
    let found = found-in placed slot c i well is in
    let entry = ap (λ (p : Placed). p.entry.slot) found.stands.2 in
    omega arith)
