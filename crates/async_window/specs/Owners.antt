-- Who owns the identifiers of asynchronous windows.
use Rattle.std.specs.Prelude.{◌≢◌, ◌≤◌, List, All, AllPairs}
use Rattle.profile.specs.Limits.{greatest_identifier, least_asynchronous}
use Rattle.async_window.specs.declared.request.Owner.{Owner}

-- owners: each of an asynchronous identifier of its own
pub record AreOwners (owners : List Owner) : Type 0 where
  pub distinct : AllPairs (λ one other. one.id ≢ other.id) owners
  pub least : All (λ owner. least_asynchronous ≤ owner.id) owners
  pub greatest : All (λ owner. owner.id ≤ greatest_identifier) owners
