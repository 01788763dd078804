-- The slots of which some entries have an instance that may be sent.
use Rattle.std.proofs.Common.{◌≡◌, ℕ, ◌≤◌, ◌&&◌, ◌||◌, Bool, true, false, nat_eq, is_some, if◌then◌else◌, Option, Some, None, option_map, List, [], ◌∷◌, ◌+◌, ◌<◌, get_or, slice_get, length, take, refl, sym, ap, ◌∙◌}
use Rattle.std.specs.List.{list_any, filter_map, cons_option}
use Rattle.std.proofs.lemmas.List.{take_all, take_more}
use Rattle.std.proofs.lemmas.List.Folds.{list_any-append}
use Rattle.requirement_table.specs.declared.entries.Placed.{Placed}
use Rattle.requirement_table.specs.Instance.{Instance, instance_of}
use Rattle.requirement_table.specs.Table.{sendable, instance_in}

-- the entry has the slot, and an instance that may be sent in the cycle
abbrev pub sends_slot : ℕ → ℕ → Placed → Bool
sends_slot c slot p = nat_eq p.entry.slot slot && is_some (instance_of p c)

one-entry : (p : Placed) (has_slot : Bool) (number : Option ℕ) (rest : List Instance)
    → is_some (slice_get (cons_option (if has_slot then option_map (λ k. record { placed = p; number = k }) number else None) rest) 0)
    ≡ ((has_slot && is_some number) || is_some (slice_get rest 0))
one-entry p true (Some k) rest = refl
one-entry p true None rest = refl
one-entry p false number rest = refl

-- an instance of the slot is found exactly where some entry has one
pub is_some-instance_in : (placed : List Placed) (slot c : ℕ) → is_some (instance_in placed slot c) ≡ list_any (sends_slot c slot) placed
is_some-instance_in [] slot c = refl
is_some-instance_in (p ∷ rest) slot c =
    one-entry p (nat_eq p.entry.slot slot) (instance_of p c) (filter_map (sendable slot c) rest)
    ∙ ap (λ later. sends_slot c slot p || later) (is_some-instance_in rest slot c)

-- a set of the slots of all entries
pub is_some-instance_all : (mask : Bool) (placed : List Placed) (slot c count : ℕ) → length placed ≤ count
    → mask ≡ list_any (sends_slot c slot) (take count placed) → mask ≡ is_some (instance_in placed slot c)
is_some-instance_all mask placed slot c count all is =
    is ∙ ap (list_any (sends_slot c slot)) (take_all count placed all) ∙ sym (is_some-instance_in placed slot c)

turned-or : (one other : Bool) → (one || other) ≡ (other || (one || false))
turned-or true true = refl
turned-or true false = refl
turned-or false true = refl
turned-or false false = refl

-- one more entry
pub more-sendable : (mask more : Bool) (placed : List Placed) (i slot c : ℕ) (d : Placed) → i < length placed
    → mask ≡ list_any (sends_slot c slot) (take i placed) → more ≡ (sends_slot c slot (get_or placed i d) || mask)
    → more ≡ list_any (sends_slot c slot) (take (i + 1) placed)
more-sendable mask more placed i slot c d within so_far is =
    let p = get_or placed i d in
    is
    ∙ turned-or (sends_slot c slot p) mask
    ∙ ap (λ b. b || (sends_slot c slot p || false)) so_far
    ∙ sym (list_any-append (sends_slot c slot) (take i placed) (p ∷ []))
    ∙ ap (list_any (sends_slot c slot)) (sym (take_more placed i d within))
