use Rattle.std.proofs.Common.{◌≡◌, ℕ, ◌≤◌, List, Any, get_or, subst}
use Rattle.std.proofs.lemmas.List.Elements.{All-contains}
use Rattle.async_window.specs.declared.request.Owner.{Owner}
use Rattle.async_window.specs.Owners.{AreOwners}
use Rattle.kept_run.proofs.laws.requests_of_owners.Goals as goal

-- an identifier that has an owner is an asynchronous one
in_range : (owners : List Owner) (id : ℕ) → AreOwners owners → Any (λ owner. owner.id ≡ id) owners → (0x200 ≤ id) × (id ≤ 0x7EF)
in_range owners id are (k, owner, within, at, owns) = (
  subst (λ n. 0x200 ≤ n) owns (All-contains (λ o. 0x200 ≤ o.id) owners owner are.least (k, within, at)),
  subst (λ n. n ≤ 0x7EF) owns (All-contains (λ o. o.id ≤ 0x7EF) owners owner are.greatest (k, within, at)),
)

pub returns : goal.returns
returns c = record { asynchronous = λ owners requests are owned k d within. in_range owners (get_or requests k d).frame.identifier are (owned k d within) }
