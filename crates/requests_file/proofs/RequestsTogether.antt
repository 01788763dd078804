-- The requests of rows, one row after the other.
use Rattle.std.proofs.Common.{◌≡◌, inl, inr, ℕ, ◌-◌, ◌<◌, ◌≤◌, List, [], ◌∷◌, ◌++◌, length, length-append, get_or, AllPairs, refl, arith, lit≤}
use Rattle.std.proofs.lemmas.Bool.{cases_lt}
use Rattle.std.proofs.lemmas.List.Elements.{All-nil, All-push}
use Rattle.std.proofs.lemmas.List.Quantifiers.{all_pairs_push}
use Rattle.std.proofs.lemmas.Option.{slice_get-get_or}
use Rattle.async_window.specs.declared.request.Request.{Request}
use Rattle.async_window.specs.declared.request.Owner.{Owner}
use Rattle.requests_file.specs.RequestRow.{IsRequest, arrival_above}
use Rattle.requests_file.specs.RequestsFile.{AreLegal}

-- no requests are legal
pub none_legal : (owners : List Owner) → AreLegal owners []
none_legal owners = record { each = All-nil (IsRequest owners); in_order = λ i j d before inside. absurd (omega (arith, inside)); few = lit≤ tt }

last_arrival : (above : List Request) (d : Request) → 0 < length above → arrival_above above ≡ (get_or above (length above - 1) d).at
last_arrival above d some = rw (slice_get-get_or above (length above - 1) d (omega arith)) refl

earlier_at : (above : List Request) (at k : ℕ) (d : Request) → AllPairs (λ earlier later. earlier.at ≤ later.at) above → arrival_above above ≤ at → k < length above → (get_or above k d).at ≤ at
earlier_at above at k d pairs after inside =
    let last : (get_or above (length above - 1) d).at ≤ at = rw (last_arrival above d (omega arith)) at after in
    elim (cases_lt k (length above - 1)) [
      | inl before ↦ omega (arith, last, pairs k (length above - 1) d before (omega arith))
      | inr same ↦ let at_end : k ≡ length above - 1 = omega arith in rw at_end last
    ]

-- one more request
pub more_legal : (owners : List Owner) (above : List Request) (request : Request) → AreLegal owners above → IsRequest owners request → arrival_above above ≤ request.at → length above < 50000
    → AreLegal owners (above ++ request ∷ [])
more_legal owners above request before is after few =
    record {
      each = All-push (IsRequest owners) above request before.each is;
      in_order = all_pairs_push (λ earlier later. earlier.at ≤ later.at) above request before.in_order (λ k d inside. earlier_at above request.at k d before.in_order after inside);
      few = omega (arith, length-append above (request ∷ []));
    }
