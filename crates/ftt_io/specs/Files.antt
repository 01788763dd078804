-- What a shelf tells of its files. A name is its bytes.
use Rattle.std.specs.Prelude.{◌≡◌, ℕ, ◌<◌, List, length, Option, Some, None}
use Rattle.std.specs.Option.{ForSome}

-- the bytes under each name, and `None` where there are none
abbrev pub NamedFiles : Type 0
NamedFiles = List ℕ → Option (List ℕ)

-- where the files are told, these bytes stand under the name
abbrev pub HasBytes : Option NamedFiles → List ℕ → List ℕ → Type 0
HasBytes told name bytes = ForSome told (λ files. files name ≡ Some bytes)

-- where the files are told, more than `limit` bytes stand under the name
abbrev pub HasMoreThan : Option NamedFiles → List ℕ → ℕ → Type 0
HasMoreThan told name limit =
    ForSome told (λ files. (bytes : List ℕ) × (files name ≡ Some bytes) × (limit < length bytes))

-- the files are told, and no bytes stand under the name
pub record IsAbsent (told : Option NamedFiles) (name : List ℕ) : Type 0 where
  pub files : NamedFiles
  pub told_as : told ≡ Some files
  pub nothing : files name ≡ None
