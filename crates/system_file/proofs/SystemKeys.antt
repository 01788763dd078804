-- The keys of a table, and what it holds at them.
use Rattle.std.proofs.Common.{◌≡◌, ℕ, Bool, true, false, not, cond, List, [], ◌∷◌, Option, Some, None, option_map, Bor, String, Global, Less, map, refl, ap, sym, ◌∙◌, ◌||◌, string_bytes, nat_cmp}
use Rattle.std.specs.BTreeMap.{is_at}
use Rattle.std.specs.Cmp.Lexicographic.{slice_cmp}
use Rattle.std.specs.List.{AllByRecursion, filter, find, list_any}
use Rattle.std.specs.List.Sorted.{IsStrictlySortedBy}
use Rattle.std.specs.String.{string_cmp}
use Rattle.std.specs.Map.{keys_of, lookup}
use Rattle.toml.proofs.Views.{Entry, table_get}
use Rattle.toml.specs.Data.{get_member}
use Rattle.toml.specs.View.{members_view, view}
use Rattle.toml.specs.declared.value.Value.{Value}
use Rattle.system_file.specs.SystemFile.{in_byte_order, insert_key, is_among, keys_of as member_keys, unknown_keys}
use Rattle.system_file.specs.SystemParts.{first_key}

-- what the map of a table finds at a key is what the table holds there
pub value_at : (found : Option (Bor Value)) (key : List ℕ) (entries : List Entry) → option_map (λ x. x.now) found ≡ lookup (is_at (λ x. slice_cmp nat_cmp key (string_bytes x))) entries
    → option_map (λ x. view x.now) found ≡ get_member key (members_view entries)
value_at found key entries e = table_get found key entries e

-- a test of some element, of a list that was mapped
pub list_any-map : {A B : Type 0} (test : B → Bool) (change : A → B) (xs : List A) → list_any test (map change xs) ≡ list_any (λ x. test (change x)) xs
list_any-map test change [] = refl
list_any-map test change (x ∷ xs) = ap (λ rest. test (change x) || rest) (list_any-map test change xs)

one_key : (unknown : Bool) (key : String Global) (rest : List (List ℕ)) (found : Option (String Global)) → option_map string_bytes found ≡ first_key rest
    → option_map string_bytes (cond unknown (Some key) found) ≡ first_key (cond unknown (string_bytes key ∷ rest) rest)
one_key true key rest found e = refl
one_key false key rest found e = e

first_place : (key : String Global) (entries : List Entry) → AllByRecursion (λ other. string_cmp key other ≡ Less) (keys_of entries)
    → insert_key (string_bytes key) (member_keys (members_view entries)) ≡ string_bytes key ∷ member_keys (members_view entries)
first_place key [] less = refl
first_place key (entry ∷ entries) less = rw less.0 refl

-- the keys of a map stand in byte order
keys_in_order : (entries : List Entry) → IsStrictlySortedBy string_cmp (keys_of entries) → in_byte_order (member_keys (members_view entries)) ≡ member_keys (members_view entries)
unfolding IsStrictlySortedBy
keys_in_order [] sorted = refl
keys_in_order (entry ∷ entries) sorted =
    ap (insert_key (string_bytes entry.0)) (keys_in_order entries sorted.1) ∙ first_place entry.0 entries sorted.0

-- the first key of a map that is none of these is the first unknown key of its table
pub first_of_keys : (known : List (List ℕ)) (entries : List Entry) → IsStrictlySortedBy string_cmp (keys_of entries)
    → option_map string_bytes (find (λ (key : String Global). not (is_among known (string_bytes key))) (keys_of entries)) ≡ first_key (unknown_keys known (members_view entries))
first_of_keys known entries sorted =
    found entries ∙ ap (λ (keys : List (List ℕ)). first_key (filter (λ key. not (is_among known key)) keys)) (sym (keys_in_order entries sorted))
  where
    found : (entries : List Entry) → option_map string_bytes (find (λ (key : String Global). not (is_among known (string_bytes key))) (keys_of entries))
        ≡ first_key (filter (λ key. not (is_among known key)) (member_keys (members_view entries)))
    found [] = refl
    found (entry ∷ entries) = one_key (not (is_among known (string_bytes entry.0))) entry.0 _ _ (found entries)

pub map-twice : {A B C : Type 0} (first : A → B) (second : B → C) (x : Option A) → option_map (λ y. second (first y)) x ≡ option_map second (option_map first x)
map-twice first second (Some x) = refl
map-twice first second None = refl
