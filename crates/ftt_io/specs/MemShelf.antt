-- What contracts see of a shelf in memory.
use Rattle.std.specs.Prelude.{ℕ, List, String, Vec, map, string_bytes}
use Rattle.std.specs.List.{find}
use Rattle.std.specs.Option.{option_map}
use Rattle.std.specs.Str.{bytes_eq}
use Rattle.ftt_io.specs.Files.{NamedFiles}

-- the names with their bytes, the numbers of the fetches that fail, and the counts
pub record MemShelfState : Type 0 where
  pub files : List (List ℕ × List ℕ)
  pub failing : List ℕ
  pub fetches : ℕ
  pub faults : ℕ
  pub last_fetch_len : ℕ

-- the names of the files and their bytes
abbrev pub named_bytes : {A B : Type 0} → List (String A × Vec ℕ B) → List (List ℕ × List ℕ)
named_bytes files = map (λ file. (string_bytes file.0, file.1.items)) files

-- the bytes of the first file with the name
abbrev pub files_in : List (List ℕ × List ℕ) → NamedFiles
files_in files name = option_map (λ file. file.1) (find (λ file. bytes_eq file.0 name) files)
