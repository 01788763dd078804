use Rattle.std.proofs.Common.{◌≡◌, ℕ, nat_eq, length, get_or, take, false}
use Rattle.std.specs.List.{list_any}
use Rattle.requests_file.proofs.requests.owned_numbers.Given as goal

-- the table says which numbers are identifiers of the owners so far
abbrev pub invariant-loop-owner : goal.invariant-loop-owner
invariant-loop-owner l =
    (length l.owned.items ≡ 65536)
    × ((identifier : ℕ) → get_or l.owned.items identifier false ≡ list_any (λ owner. nat_eq owner.id identifier) (take l.owner-index l.owners))
