-- A table that says which numbers are identifiers of owners.
use Rattle.std.specs.Prelude.{◌≡◌, ℕ, Bool, false, nat_eq, List, length, get_or}
use Rattle.std.specs.List.{list_any}
use Rattle.async_window.specs.declared.request.Owner.{Owner}

-- a table of all numbers of 16 bits that says which of them are identifiers of these owners
pub record IsOwnedTable (owners : List Owner) (owned : List Bool) : Type 0 where
  pub whole : length owned ≡ 65536
  pub each : (identifier : ℕ) → get_or owned identifier false ≡ list_any (λ owner. nat_eq owner.id identifier) owners
