-- The elements of an array, and what is wrong with them.
use Rattle.std.proofs.Common.{◌≡◌, ℕ, ◌+◌, ◌<◌, List, [], ◌∷◌, ◌++◌, map, length, get_or, drop, Option, Some, None, refl, sym, ap, subst, ◌∙◌, Vec, Global, Bor, option_map}
use Rattle.std.proofs.lemmas.List.{drop_more}
use Rattle.toml.specs.Data.{Data, Items, array, as_array}
use Rattle.toml.specs.View.{array_view, items_view, view}
use Rattle.toml.specs.declared.value.Value.{Value}
use Rattle.system_file.specs.SystemFile.{elements_in, from_place, list_of}
use Rattle.system_file.specs.SystemParts.{IsFirstSystemFault}
use Rattle.system_file.specs.declared.system_fault.SystemFault.{SystemFault}
use Rattle.system_file.proofs.SystemFirst.{first_in_front}

pub list_of_values : (values : List Value) → map view values ≡ list_of (items_view values)
list_of_values [] = refl
list_of_values (value ∷ values) = ap (λ rest. view value ∷ rest) (list_of_values values)

elements_of_array : (value : Data) (items : Items) → as_array value ≡ Some items → elements_in (Some value) ≡ list_of items
elements_of_array (array some) items e = let same : some ≡ items = cc in ap list_of same
elements_of_array _ items e = absurd (cc)

no_elements : (value : Data) → as_array value ≡ None → elements_in (Some value) ≡ []
no_elements (array some) e = absurd (cc)
no_elements _ e = refl

-- the elements of a value that is an array of these values
pub elements_of_values : (value : Data) (values : List Value) → Some (items_view values) ≡ as_array value → map view values ≡ elements_in (Some value)
elements_of_values value values e = list_of_values values ∙ sym (elements_of_array value (items_view values) (sym e))

-- what is wrong with the elements from a place on
abbrev pub left : (ℕ → Data → List SystemFault) → List Value → ℕ → List SystemFault
left faults values place = from_place faults place (map view (drop place values))

-- the values of the array that was found
pub elements_of_found : (value : Data) (found : Option (Bor (Vec Value Global))) (items : Bor (Vec Value Global))
    → option_map (λ x. array_view x.now) found ≡ as_array value → found ≡ Some items → map view items.now.items ≡ elements_in (Some value)
elements_of_found value found items e is =
    elements_of_values value items.now.items (sym (ap (λ x. option_map (λ y. array_view y.now) x) is) ∙ e)

module _ (faults : ℕ → Data → List SystemFault) (values : List Value) (whole : List SystemFault) where
  one_more : (place : ℕ) (value : Value) → place < length values
      → left faults values place ≡ faults place (view (get_or values place value)) ++ left faults values (place + 1)
  one_more place value below = rw (drop_more values place value below) refl

  -- nothing is wrong with the element at a place
  pub next_place : (place : ℕ) (value : Value) → place < length values → whole ≡ left faults values place
      → faults place (view (get_or values place value)) ≡ [] → whole ≡ left faults values (place + 1)
  next_place place value below same none = same ∙ one_more place value below ∙ ap (λ front. front ++ left faults values (place + 1)) none

  -- the first fault of the element at a place is the first of all
  pub fault_at_place : (place : ℕ) (value : Value) (fault : SystemFault) → place < length values → whole ≡ left faults values place
      → IsFirstSystemFault (faults place (view (get_or values place value))) fault → IsFirstSystemFault whole fault
  fault_at_place place value fault below same is =
      subst (λ all. IsFirstSystemFault all fault) (sym (same ∙ one_more place value below)) (first_in_front _ (left faults values (place + 1)) fault is)
