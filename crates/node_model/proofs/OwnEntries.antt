-- The entries of a node in a list: they are well placed where the list is, and have the node's instances of it.
use Rattle.std.proofs.Common.{◌≡◌, ℕ, zero, suc, Bool, true, false, cond, ◌==◌, Option, Some, List, [], ◌∷◌, map, filter, Contains, slice_get, refl, arith}
use Rattle.std.proofs.lemmas.Grind.{common_steps}
use Rattle.std.specs.Option.{IfSome}
use Rattle.std.proofs.lemmas.Bool.{eqb-true, eq-eqb}
use Rattle.std.proofs.lemmas.Option.{slice_get-get_or}
use Rattle.std.proofs.lemmas.List.Elements.{All-contains, All-contains_itself, All-filter, filter_passes}
use Rattle.std.proofs.lemmas.List.Kept.{AllPairs-filter}
use Rattle.requirement_table.specs.declared.entries.Placed.{Placed}
use Rattle.requirement_table.specs.Instance.{Instance, MaySend}
use Rattle.requirement_table.specs.Table.{IsInRange, GoesBefore, IsWellPlaced, instance_in}
use Rattle.requirement_table.proofs.Shared.{instance_in-found, instance_in-sound}
use Rattle.node_model.specs.Node.{entries_of}

module _ {X : Type 0} (test : X → Bool) where
  -- an element that a filter keeps is one of the list, and passes
  pub Contains-from_filter : (xs : List X) (x : X) → Contains (filter test xs) x → Contains xs x
  Contains-from_filter xs x among = All-contains (Contains xs) (filter test xs) x (All-filter test (Contains xs) xs (All-contains_itself xs)) among

  pub passes-from_filter : (xs : List X) (x : X) → Contains (filter test xs) x → test x ≡ true
  passes-from_filter xs x among = All-contains (λ y. test y ≡ true) (filter test xs) x (filter_passes test xs) among

  Contains-kept : (b : Bool) (y : X) (xs : List X) (x : X) → Contains xs x → Contains (cond b (y ∷ xs) xs) x
  Contains-kept true y xs x among = (suc among.0, omega (arith, among.1), among.2)
  Contains-kept false y xs x among = among

  -- a filter keeps an element that passes
  pub Contains-filter : (xs : List X) (x : X) → Contains xs x → test x ≡ true → Contains (filter test xs) x
  Contains-filter [] x (k, within, same) passes = absurd (omega arith)
  Contains-filter (y ∷ xs) x (zero, within, same) passes = grind arith
  Contains-filter (y ∷ xs) x (suc k, within, same) passes =
      Contains-kept (test y) y (filter test xs) x (Contains-filter xs x (k, omega arith, same) passes)

-- an element of a mapped list is the image of one
pub Contains-from_map : {X Y : Type 0} (f : X → Y) (xs : List X) (y : Y) → Contains (map f xs) y → (x : X) × Contains xs x × (f x ≡ y)
Contains-from_map f [] y (k, within, same) = absurd (omega arith)
Contains-from_map f (x ∷ xs) y (zero, within, same) = (x, (0, omega arith, refl), same)
Contains-from_map f (x ∷ xs) y (suc k, within, same) =
    let later = Contains-from_map f xs y (k, omega arith, same) in
    (later.0, (suc later.1.0, omega (arith, later.1.1), later.1.2), later.2)

pub Contains-map : {X Y : Type 0} (f : X → Y) (xs : List X) (x : X) → Contains xs x → Contains (map f xs) (f x)
Contains-map f xs x h0 = grind (arith, common_steps)

abbrev is_of : ℕ → Placed → Bool
is_of number p = p.entry.node == number

pub entries_of-well_placed : (number : ℕ) (placed : List Placed) → IsWellPlaced placed → IsWellPlaced (entries_of number placed)
entries_of-well_placed number placed well = record {
  in_range = All-filter (is_of number) IsInRange placed well.in_range;
  in_order = AllPairs-filter GoesBefore (is_of number) placed well.in_order;
}

pub IfSome-at : {X : Type 0} (o : Option X) (x : X) (P : X → Type 0) → o ≡ Some x → IfSome o P → P x
IfSome-at o x P is holds = rw is at holds

-- the instance is one of the slot, of an entry of the list, that may be sent in the cycle
abbrev pub IsSentFrom : List Placed → ℕ → ℕ → Instance → Type 0
IsSentFrom placed slot c i = Contains placed i.placed × (i.placed.entry.slot ≡ slot) × MaySend i.placed i.number c

-- an instance that a list finds is one of its entries', of the slot, and may be sent
pub sent_from : (placed : List Placed) (slot c : ℕ) (i : Instance) → instance_in placed slot c ≡ Some i → IsSentFrom placed slot c i
sent_from placed slot c i is = IfSome-at (instance_in placed slot c) i (IsSentFrom placed slot c) is (instance_in-sound placed slot c)

-- an instance of an entry of the list, of the slot, that may be sent, is found
pub found_from : (placed : List Placed) (slot c : ℕ) (i : Instance) → IsWellPlaced placed → IsSentFrom placed slot c i → instance_in placed slot c ≡ Some i
found_from placed slot c i well sent = grind (arith, slice_get, slice_get-get_or, instance_in-found)

-- what a node has of its own is what the whole list has, of the node's entries
pub instance-of_all : (number : ℕ) (placed : List Placed) (slot c : ℕ) (i : Instance) → IsWellPlaced placed
    → instance_in (entries_of number placed) slot c ≡ Some i → (instance_in placed slot c ≡ Some i) × (i.placed.entry.node ≡ number)
instance-of_all number placed slot c i well is =
    let sent = sent_from (entries_of number placed) slot c i is in (
      found_from placed slot c i well (Contains-from_filter (is_of number) placed i.placed sent.0, sent.1, sent.2),
      eqb-true i.placed.entry.node number (passes-from_filter (is_of number) placed i.placed sent.0),
    )

pub instance-of_own : (number : ℕ) (placed : List Placed) (slot c : ℕ) (i : Instance) → IsWellPlaced placed
    → instance_in placed slot c ≡ Some i → i.placed.entry.node ≡ number → instance_in (entries_of number placed) slot c ≡ Some i
instance-of_own number placed slot c i well is own =
    let sent = sent_from placed slot c i is in
    found_from (entries_of number placed) slot c i (entries_of-well_placed number placed well)
    (Contains-filter (is_of number) placed i.placed sent.0 (eq-eqb i.placed.entry.node number own), sent.1, sent.2)
