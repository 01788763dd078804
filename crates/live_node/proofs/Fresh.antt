-- What is true of a node that is made.
use Rattle.std.proofs.Common.{◌≡◌, ◌≢◌, ℕ, zero, suc, ◌<◌, ◌≤◌, List, [], ◌∷◌, refl, length, get_or, map, All, AllPairs, sym, ◌∙◌, subst, arith}
use Rattle.std.proofs.lemmas.List.{length-map}
use Rattle.profile.specs.Limits.{greatest_identifier, least_asynchronous}
use Rattle.async_window.specs.declared.request.Owner.{Owner}
use Rattle.async_window.specs.Owners.{AreOwners}
use Rattle.node_model.specs.Node.{identifiers_of}
use Rattle.node_model.proofs.Shared.{identifiers_of-all, identifiers_of-distinct}
use Rattle.live_node.specs.Live.{AreWaiting, Waiting, nothing_waits}

-- the identifier at a place is that of the owners
at-place : (room : ℕ) (ids : List ℕ) (k : ℕ) (d : Waiting) → k < length ids
    → (get_or (map (nothing_waits room) ids) k d).identifier ≡ get_or ids k d.identifier
at-place room [] k d within = absurd (omega arith)
at-place room (id ∷ ids) zero d within = refl
at-place room (id ∷ ids) (suc k) d within = at-place room ids k d (omega arith)

pub fresh-waiting : (room number : ℕ) (owners : List Owner) (mail : List Waiting)
    → mail ≡ map (nothing_waits room) (identifiers_of number owners) → AreOwners owners → AreWaiting mail
fresh-waiting room number owners mail is known =
    let ids : List ℕ = identifiers_of number owners in
    let long = length-map ids (nothing_waits room) in
    let apart : AllPairs (λ one other. one ≢ other) ids = identifiers_of-distinct number owners known.distinct in
    let least : All (λ id. least_asynchronous ≤ id) ids = identifiers_of-all (λ id. least_asynchronous ≤ id) number owners known.least in
    let greatest : All (λ id. id ≤ greatest_identifier) ids = identifiers_of-all (λ id. id ≤ greatest_identifier) number owners known.greatest in
    subst AreWaiting (sym is) (record {
      distinct = λ i j d before within same.
          apart i j d.identifier before (omega (arith, within, long))
          (sym (at-place room ids i d (omega (arith, before, within, long))) ∙ same ∙ at-place room ids j d (omega (arith, within, long)));
      least = λ k d within. subst (λ n. least_asynchronous ≤ n) (sym (at-place room ids k d (omega (arith, within, long)))) (least k d.identifier (omega (arith, within, long)));
      greatest = λ k d within. subst (λ n. n ≤ greatest_identifier) (sym (at-place room ids k d (omega (arith, within, long)))) (greatest k d.identifier (omega (arith, within, long)));
    })
