-- Owners and their identifiers.
use Rattle.std.proofs.Common.{◌≡◌, ℕ, suc, ◌+◌, ◌<◌, Bool, true, false, ◌||◌, nat_eq, List, [], ◌∷◌, ◌++◌, map, length, take, get_or, All, AllPairs, refl, ap, sym, subst, ◌∙◌, arith}
use Rattle.std.proofs.lemmas.Bool.Decides.{nat_tests}
use Rattle.std.proofs.lemmas.List.{take-map, take_more}
use Rattle.std.proofs.lemmas.List.Elements.{All-cons, All-head, All-nil, All-push, All-tail}
use Rattle.std.proofs.lemmas.List.Kept.{AllPairs-cons}
use Rattle.std.specs.List.{list_any}
use Rattle.async_window.specs.declared.request.Owner.{Owner}
use Rattle.toml.specs.Data.{Data}
use Rattle.toml.specs.View.{view}
use Rattle.toml.specs.declared.value.Value.{Value}
use Rattle.system_file.specs.SystemFile.{from_place, id_of, owner_of, ranges_among, ranges_in_element}
use Rattle.system_file.specs.SystemParts.{HaveOtherIds, IsFirstSystemFault, IsOwner, id_of_owner}
use Rattle.system_file.specs.declared.system_fault.SystemFault.{SystemFault}
use Rattle.system_file.proofs.SystemElements.{fault_at_place, left, next_place}

not_first : (id other : ℕ) (rest : Bool) → (nat_eq id other || rest) ≡ false → (other ≡ id → ⊥) × (rest ≡ false)
not_first id other true e = grind (arith, nat_tests)
not_first id other false e = grind (arith, nat_tests)

-- an identifier that none of the owners has
pub new_id : (id : ℕ) (owners : List Owner) → list_any (nat_eq id) (map id_of_owner owners) ≡ false → All (λ (other : Owner). other.id ≡ id → ⊥) owners
new_id id [] e = All-nil (λ (other : Owner). other.id ≡ id → ⊥)
new_id id (owner ∷ owners) e =
    let (here, more) = not_first id owner.id (list_any (nat_eq id) (map id_of_owner owners)) e in
    All-cons (λ (other : Owner). other.id ≡ id → ⊥) owner owners here (new_id id owners more)

module _ {X : Type 0} (R : X → X → Type 0) where
  pairs_head : (x : X) (xs : List X) → AllPairs R (x ∷ xs) → All (R x) xs
  pairs_head x xs pairs k d within = pairs 0 (suc k) d (omega arith) (omega arith)

  pairs_tail : (x : X) (xs : List X) → AllPairs R (x ∷ xs) → AllPairs R xs
  pairs_tail x xs pairs i j d before within = pairs (suc i) (suc j) d (omega arith) (omega arith)

  -- one more element that goes with each before it
  pub AllPairs-push : (xs : List X) (y : X) → AllPairs R xs → All (λ x. R x y) xs → AllPairs R (xs ++ y ∷ [])
  AllPairs-push [] y pairs last = λ i j d before within. absurd (omega arith)
  AllPairs-push (x ∷ xs) y pairs last =
      AllPairs-cons R x (xs ++ y ∷ []) (All-push (R x) xs y (pairs_head x xs pairs) (All-head (λ z. R z y) x xs last))
      (AllPairs-push xs y (pairs_tail x xs pairs) (All-tail (λ z. R z y) x xs last))

ids_of_owners : (elements : List Data) → map id_of_owner (map owner_of elements) ≡ map id_of elements
ids_of_owners [] = refl
ids_of_owners (element ∷ elements) = ap (λ rest. id_of element ∷ rest) (ids_of_owners elements)

-- the identifiers of the owners of the elements before a place
pub ids_before : (owners : List Owner) (place : ℕ) (elements : List Value) → owners ≡ map owner_of (map view (take place elements))
    → map id_of_owner owners ≡ take place (map id_of (map view elements))
ids_before owners place elements same =
    ap (map id_of_owner) same ∙ ids_of_owners (map view (take place elements)) ∙ ap (map id_of) (sym (take-map view place elements)) ∙ sym (take-map id_of place (map view elements))

owners_push : (elements : List Value) (element : Value) → map owner_of (map view (elements ++ element ∷ [])) ≡ map owner_of (map view elements) ++ owner_of (view element) ∷ []
owners_push [] element = refl
owners_push (other ∷ elements) element = ap (λ rest. owner_of (view other) ∷ rest) (owners_push elements element)

-- the owners of the elements up to the next place
pub next_owner : (owners : List Owner) (owner : Owner) (place : ℕ) (elements : List Value) (element : Value) → place < length elements
    → owners ≡ map owner_of (map view (take place elements)) → owner ≡ owner_of (view (get_or elements place element))
    → owners ++ owner ∷ [] ≡ map owner_of (map view (take (place + 1) elements))
next_owner owners owner place elements element below same is =
    rw (take_more elements place element below, owners_push (take place elements) (get_or elements place element), same, is) refl

-- what is wrong with the values of some elements
abbrev pub range_faults_in : ℕ → List Value → List SystemFault
range_faults_in nodes elements = from_place (ranges_among nodes (map id_of (map view elements))) 0 (map view elements)

-- the elements before a place are read, and these are their owners
pub record IsRead (nodes : ℕ) (elements : List Value) (place : ℕ) (owners : List Owner) : Type 0 where
  pub faults : range_faults_in nodes elements ≡ left (ranges_among nodes (map id_of (map view elements))) elements place
  pub same : owners ≡ map owner_of (map view (take place elements))
  pub valid : All (IsOwner nodes) owners
  pub distinct : AllPairs HaveOtherIds owners

-- one more element is read
pub read_next : (nodes : ℕ) (elements : List Value) (place : ℕ) (element : Value) (owners pushed : List Owner) (owner : Owner)
    → IsRead nodes elements place owners → pushed ≡ owners ++ owner ∷ [] → place < length elements → element ≡ get_or elements place element → owner ≡ owner_of (view element)
    → IsOwner nodes owner → All (λ other. HaveOtherIds other owner) owners → ranges_in_element nodes (map id_of_owner owners) place (view element) ≡ []
    → IsRead nodes elements (place + 1) pushed
read_next nodes elements place element owners pushed owner read push below at is valid new none =
    let faults = ranges_among nodes (map id_of (map view elements)) in
    let here : faults place (view (get_or elements place element)) ≡ [] =
    ap (λ (earlier : List ℕ). ranges_in_element nodes earlier place (view (get_or elements place element))) (sym (ids_before owners place elements read.same))
    ∙ ap (λ (value : Value). ranges_in_element nodes (map id_of_owner owners) place (view value)) (sym at) ∙ none in
    subst (λ (all : List Owner). IsRead nodes elements (place + 1) all) (sym push) (record {
      faults = next_place faults elements (range_faults_in nodes elements) place element below read.faults here;
      same = next_owner owners owner place elements element below read.same (is ∙ ap (λ (value : Value). owner_of (view value)) at);
      valid = All-push (IsOwner nodes) owners owner read.valid valid;
      distinct = AllPairs-push HaveOtherIds owners owner read.distinct new;
    })

-- the first fault of an element is the first of all
pub read_fault : (nodes : ℕ) (elements : List Value) (place : ℕ) (element : Value) (owners : List Owner) (fault : SystemFault)
    → IsRead nodes elements place owners → place < length elements → element ≡ get_or elements place element
    → IsFirstSystemFault (ranges_in_element nodes (map id_of_owner owners) place (view element)) fault
    → IsFirstSystemFault (range_faults_in nodes elements) fault
read_fault nodes elements place element owners fault read below at is =
    let faults = ranges_among nodes (map id_of (map view elements)) in
    let here : ranges_in_element nodes (map id_of_owner owners) place (view element) ≡ faults place (view (get_or elements place element)) =
    ap (λ (value : Value). ranges_in_element nodes (map id_of_owner owners) place (view value)) at
    ∙ ap (λ (earlier : List ℕ). ranges_in_element nodes earlier place (view (get_or elements place element))) (ids_before owners place elements read.same) in
    fault_at_place faults elements (range_faults_in nodes elements) place element fault below read.faults
    (subst (λ (all : List SystemFault). IsFirstSystemFault all fault) here is)
