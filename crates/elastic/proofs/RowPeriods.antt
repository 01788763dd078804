-- The periods of a row, one after the other.
use Rattle.std.proofs.Common.{◌≡◌, ℕ, suc, ◌+◌, List, [], ◌∷◌, ◌++◌, Option, Some, None, option_map, refl, ap, append_assoc}
use Rattle.text_fields.specs.CsvRows.{number_at}
use Rattle.elastic.specs.WishFields.{numbers_from}

joined : (periods : List ℕ) (number : ℕ) (numbers : Option (List ℕ))
    → option_map (λ rest. (periods ++ number ∷ []) ++ rest) numbers ≡ option_map (λ rest. periods ++ rest) (option_map (λ rest. number ∷ rest) numbers)
joined periods number None = refl
joined periods number (Some rest) = ap Some (append_assoc periods (number ∷ []) rest)

module _ (row : List (List ℕ)) (place left : ℕ) (periods : List ℕ) where
  -- a number more
  pub number_more : (number : ℕ) → number_at row place 0 65535 ≡ Some number
      → option_map (λ rest. (periods ++ number ∷ []) ++ rest) (numbers_from row (place + 1) left) ≡ option_map (λ rest. periods ++ rest) (numbers_from row place (suc left))
  number_more number is = rw is (joined periods number (numbers_from row (place + 1) left))

  -- a field that is no number
  pub no_number : number_at row place 0 65535 ≡ None → option_map (λ rest. periods ++ rest) (numbers_from row place (suc left)) ≡ None
  no_number is = rw is refl
