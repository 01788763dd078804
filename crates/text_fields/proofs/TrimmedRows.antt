-- Rows with trimmed fields, by the records that were read.
use Rattle.std.proofs.Common.{◌≡◌, ℕ, List, [], ◌∷◌, ◌++◌, map, ap, ◌∙◌}
use Rattle.std.proofs.lemmas.List.{map-append}
use Rattle.text_fields.specs.CsvRows.{records_of, rows_of, trimmed}

module _ (read : List (List (List ℕ))) (fields : List (List ℕ)) where
  -- one record more is one row more
  pub trimmed-more : map (map trimmed) (read ++ fields ∷ []) ≡ map (map trimmed) read ++ map trimmed fields ∷ []
  trimmed-more = map-append (map trimmed) read (fields ∷ [])

  pub trimmed-split : (bytes : List ℕ) (below : List (List (List ℕ))) → records_of bytes ≡ read ++ fields ∷ below
      → rows_of bytes ≡ map (map trimmed) read ++ map trimmed fields ∷ map (map trimmed) below
  trimmed-split bytes below split = ap (map (map trimmed)) split ∙ map-append (map trimmed) read (fields ∷ below)
