-- What is known of a node's own entries, identifiers and slots.
use Rattle.std.proofs.Common.{zero, suc, length, take, get_or, ◌≡◌, ◌≢◌, ℕ, ◌+◌, ◌-◌, ◌^◌, ◌<◌, ◌≤◌, ◌||◌, ◌==◌, Bool, true, false, cond, map, Option, Some, None, MatchOption, ◌⊎◌, List, [], ◌∷◌, filter, All, AllPairs, refl, sym, ap, ◌∙◌, subst, arith, ⊎_elim}
use Rattle.std.specs.List.{list_any}
use Rattle.std.proofs.lemmas.Bool.{cases_lt, eq-eqb, eqb-true}
use Rattle.std.proofs.lemmas.Bool.Decides.{nat_tests}
use Rattle.std.proofs.lemmas.List.{length-map}
use Rattle.std.proofs.lemmas.List.Elements.{All-filter, All-map}
use Rattle.std.proofs.lemmas.List.Kept.{AllPairs-filter}
use Rattle.profile.specs.Limits.{first_identifier}
use Rattle.requirement_table.specs.declared.entries.Placed.{Placed}
use Rattle.bit_sets.specs.Sets.{has_bit, most_slots}
use Rattle.bit_sets.proofs.Shared.{has_bit-above}
use Rattle.requirement_table.specs.Table.{IsInRange, GoesBefore, IsWellPlaced}
use Rattle.async_window.specs.declared.request.Owner.{Owner}
use Rattle.async_window.proofs.Shared.{AllPairs-map}
use Rattle.node_model.specs.Node.{entries_of, identifiers_of, is_own_slot, with_node}
use Rattle.node_model.specs.Kept.{AreSlotsOf, kept_of}

-- a well placed list is so too with one number
pub with_node-well_placed : (number : ℕ) (placed : List Placed) → IsWellPlaced placed → IsWellPlaced (map (with_node number) placed)
with_node-well_placed number placed well = record {
  in_range = All-map IsInRange (with_node number) placed (λ k d within. grind arith);
  in_order = AllPairs-map GoesBefore (with_node number) placed (λ p. p) (λ i j d before within. well.in_order i j d before within);
}

-- what a node keeps of a well placed list is well placed
pub IsWellPlaced-kept : (all : Bool) (number : ℕ) (placed : List Placed) → IsWellPlaced placed → IsWellPlaced (kept_of all number placed)
IsWellPlaced-kept all number placed well =
    with_node-well_placed number (filter (λ p. all || p.entry.node == number) placed) (record {
      in_range = All-filter (λ p. all || p.entry.node == number) IsInRange placed well.in_range;
      in_order = AllPairs-filter GoesBefore (λ p. all || p.entry.node == number) placed well.in_order;
    })

-- all entries with a node's number are its own
pub with_node-own : (number : ℕ) (placed : List Placed) → map (with_node number) placed ≡ entries_of number (map (with_node number) placed)
with_node-own number [] = refl
with_node-own number (p ∷ ps) =
    ap (λ all. with_node number p ∷ all) (with_node-own number ps)
    ∙ ap (λ b. cond b (with_node number p ∷ entries_of number (map (with_node number) ps)) (entries_of number (map (with_node number) ps)))
    (sym (eq-eqb number number refl))

-- the elements that pass a test before one that passes are fewer than all that pass
longer : {A : Type 0} (b : Bool) (x : A) (xs ys : List A) → length xs < length ys → length (cond b (x ∷ xs) xs) < length (cond b (x ∷ ys) ys)
longer true x xs ys fewer = omega (arith, fewer)
longer false x xs ys fewer = fewer

filter-fewer : {A : Type 0} (test : A → Bool) (xs : List A) (i : ℕ) (d : A) → i < length xs → test (get_or xs i d) ≡ true
    → length (filter test (take i xs)) < length (filter test xs)
filter-fewer test [] i d within passes = absurd (omega arith)
filter-fewer test (y ∷ ys) zero d within passes =
    subst (λ b. 0 < length (cond b (y ∷ filter test ys) (filter test ys))) (sym passes) (omega arith)
filter-fewer test (y ∷ ys) (suc i) d within passes =
    longer (test y) y (filter test (take i ys)) (filter test ys) (filter-fewer test ys i d (omega arith) passes)

pub kept-fewer : (all : Bool) (number : ℕ) (placed : List Placed) (i : ℕ) (d : Placed) → i < length placed
    → (all || (get_or placed i d).entry.node == number) ≡ true
    → length (kept_of all number (take i placed)) < length (kept_of all number placed)
kept-fewer all number placed i d within passes =
    let few = filter-fewer (λ q. all || q.entry.node == number) placed i d within passes in
    omega (
      arith,
      few,
      length-map (filter (λ q. all || q.entry.node == number) (take i placed)) (with_node number),
      length-map (filter (λ q. all || q.entry.node == number) placed) (with_node number),
    )

-- not more are kept than there are
pub kept-few : (all : Bool) (number : ℕ) (placed : List Placed) → length (kept_of all number placed) ≤ length placed
kept-few all number [] = omega arith
kept-few all number (p ∷ ps) = few (all || p.entry.node == number) (kept-few all number ps)
  where
    few : (b : Bool) → length (kept_of all number ps) ≤ length ps
        → length (map (with_node number) (cond b (p ∷ filter (λ q. all || q.entry.node == number) ps) (filter (λ q. all || q.entry.node == number) ps))) ≤ suc (length ps)
    few true fewer = omega (arith, fewer)
    few false fewer = omega (arith, fewer)

-- an own entry has the node's number
one-own : (number : ℕ) (p : Placed) (ps rest : List Placed) (b : Bool) → (p.entry.node == number) ≡ b → map (with_node number) ps ≡ rest
    → map (with_node number) (cond b (p ∷ ps) ps) ≡ cond b (p ∷ rest) rest
one-own number p ps rest b own is = grind (arith, eqb-true)

-- the entries that are its own stay as they are
pub kept_of-own : (number : ℕ) (placed : List Placed) → kept_of false number placed ≡ entries_of number placed
kept_of-own number [] = refl
kept_of-own number (p ∷ ps) =
    one-own number p (filter (λ p. p.entry.node == number) ps) (entries_of number ps) (p.entry.node == number) refl (kept_of-own number ps)

filter-all : (placed : List Placed) → filter (λ p. true) placed ≡ placed
filter-all [] = refl
filter-all (p ∷ ps) = ap (λ all. p ∷ all) (filter-all ps)

-- all of a list are those of its number once they have it
pub kept_of-all : (number : ℕ) (placed : List Placed) → kept_of true number placed ≡ entries_of number (map (with_node number) placed)
kept_of-all number placed = ap (map (with_node number)) (filter-all placed) ∙ with_node-own number placed

-- what holds of each owner's identifier holds of each identifier of a node
pub identifiers_of-all : (P : ℕ → Type 0) (number : ℕ) (owners : List Owner) → All (λ owner. P owner.id) owners → All P (identifiers_of number owners)
identifiers_of-all P number owners all =
    All-map P (λ owner. owner.id) (filter (λ owner. owner.node == number) owners)
    (All-filter (λ owner. owner.node == number) (λ owner. P owner.id) owners all)

-- the identifiers of a node are distinct
pub identifiers_of-distinct : (number : ℕ) (owners : List Owner) → AllPairs (λ one other. one.id ≢ other.id) owners → AllPairs (λ one other. one ≢ other) (identifiers_of number owners)
identifiers_of-distinct number owners distinct =
    AllPairs-map (λ one other. one ≢ other) (λ owner. owner.id) (filter (λ owner. owner.node == number) owners)
    (λ id. record { id = id; node = number })
    (AllPairs-filter (λ one other. one.id ≢ other.id) (λ owner. owner.node == number) owners distinct)

-- the identifier of a slot is own exactly where an entry has the slot
pub own-slot : (entries : List Placed) (slot id : ℕ) → first_identifier + slot ≡ id → is_own_slot entries id ≡ list_any (λ p. p.entry.slot == slot) entries
own-slot entries slot id is = grind (arith, nat_tests)

-- an identifier below those of slots is not own
own-none : (entries : List Placed) (id : ℕ) → id < first_identifier → is_own_slot entries id ≡ false
own-none [] id below = refl
own-none (p ∷ rest) id below =
    let one : (first_identifier + p.entry.slot == id) ≡ false = grind (arith, nat_tests) in
    ap (λ b. b || is_own_slot rest id) one ∙ own-none rest id below

is_own_slot-in : (entries : List Placed) (own slot id : ℕ) → AreSlotsOf entries own → first_identifier + slot ≡ id → has_bit own slot ≡ true → is_own_slot entries id ≡ true
is_own_slot-in entries own slot id are is has = own-slot entries slot id is ∙ sym (are slot) ∙ has

is_own_slot-out : (entries : List Placed) (own id : ℕ) → AreSlotsOf entries own → ((slot : ℕ) → first_identifier + slot ≡ id → has_bit own slot ≡ false) → is_own_slot entries id ≡ false
is_own_slot-out entries own id are none =
    ⊎_elim
    (λ (below : id < first_identifier). own-none entries id below)
    (λ (from : first_identifier ≤ id).
    let slot : ℕ = id - first_identifier in
    let is : first_identifier + slot ≡ id = omega arith in
    own-slot entries slot id is ∙ sym (are slot) ∙ none slot is)
    (cases_lt id first_identifier)

-- an identifier outside those of slots is not that of a slot in a set
pub IsAmong-outside : (own id : ℕ) → own < 2 ^ most_slots → (id < first_identifier) ⊎ (first_identifier + most_slots ≤ id) → (slot : ℕ) → first_identifier + slot ≡ id → has_bit own slot ≡ false
IsAmong-outside own id below outside slot is =
    ⊎_elim
    (λ (low : id < first_identifier). absurd (omega arith))
    (λ (high : first_identifier + most_slots ≤ id). has_bit-above own most_slots slot below (omega arith))
    outside

-- the slot that is found for an identifier, and whether it is own
pub own_slot-is : (entries : List Placed) (own id : ℕ) (found : Option ℕ) → AreSlotsOf entries own
    → MatchOption found ((slot : ℕ) → first_identifier + slot ≡ id → has_bit own slot ≡ false)
    (λ slot. (first_identifier + slot ≡ id) × (slot < most_slots) × (has_bit own slot ≡ true))
    → MatchOption found (is_own_slot entries id ≡ false) (λ slot. (is_own_slot entries id ≡ true) × (first_identifier + slot ≡ id) × (slot < most_slots))
own_slot-is entries own id None are none = is_own_slot-out entries own id are none
own_slot-is entries own id (Some slot) are some = (is_own_slot-in entries own slot id are some.0 some.2, some.0, some.1)
