-- Looking a file up by its name.
use Rattle.std.proofs.Common.{◌≡◌, ℕ, true, false, cond, List, [], ◌∷◌, Vec, Some, refl}
use Rattle.std.specs.Prelude.{String, string_bytes}
use Rattle.std.specs.List.{find}
use Rattle.std.specs.Option.{option_map}
use Rattle.std.specs.Str.{bytes_eq}
use Rattle.ftt_io.specs.MemShelf.{files_in, named_bytes}

-- the first file of the name is found among the files as they are kept
pub files_in-named_bytes : {A B : Type 0} (files : List (String A × Vec ℕ B)) (name : List ℕ) → files_in (named_bytes files) name ≡ option_map (λ file. file.1.items) (find (λ file. bytes_eq (string_bytes file.0) name) files)
files_in-named_bytes [] name = refl
files_in-named_bytes (file ∷ files) name =
    elim (bytes_eq (string_bytes file.0) name) as (λ found. option_map (λ seen. seen.1) (cond found (Some (string_bytes file.0, file.1.items)) (find (λ seen. bytes_eq seen.0 name) (named_bytes files))) ≡ option_map (λ kept. kept.1.items) (cond found (Some file) (find (λ kept. bytes_eq (string_bytes kept.0) name) files))) [
      | true ↦ refl
      | false ↦ files_in-named_bytes files name
    ]

pub ruleset lookups = (files_in-named_bytes)
