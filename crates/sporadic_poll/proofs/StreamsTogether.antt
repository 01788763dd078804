-- The requests of rows, one row after the other.
use Rattle.std.proofs.Common.{◌≡◌, ℕ, ◌-◌, ◌<◌, ◌≤◌, List, [], ◌∷◌, ◌++◌, length, length-append, get_or, AllPairs, refl, arith, lit≤}
use Rattle.std.proofs.lemmas.Bool.{cases_lt}
use Rattle.std.proofs.lemmas.List.Elements.{All-nil, All-push}
use Rattle.std.proofs.lemmas.List.Quantifiers.{all_pairs_push}
use Rattle.std.proofs.lemmas.Option.{slice_get-get_or}
use Rattle.sporadic_poll.specs.declared.stream.Stream.{Stream}
use Rattle.sporadic_poll.specs.StreamRow.{IsLegalStream, arrival_above}
use Rattle.sporadic_poll.specs.StreamsFile.{AreLegalStreams}

-- no requests are legal
pub none_legal : (slots : ℕ) → AreLegalStreams slots []
none_legal slots = record { each = All-nil (IsLegalStream slots); in_order = λ i j d before inside. absurd (omega (arith, inside)); few = lit≤ tt }

last_arrival : (above : List Stream) (d : Stream) → 0 < length above → arrival_above above ≡ (get_or above (length above - 1) d).at
last_arrival above d some = rw (slice_get-get_or above (length above - 1) d (omega arith)) refl

earlier_at : (above : List Stream) (at k : ℕ) (d : Stream) → AllPairs (λ earlier later. earlier.at ≤ later.at) above → arrival_above above ≤ at → k < length above → (get_or above k d).at ≤ at
earlier_at above at k d pairs after inside =
    let last : (get_or above (length above - 1) d).at ≤ at = rw (last_arrival above d (omega arith)) at after in
    grind (arith, cases_lt)

-- one more request
pub more_legal : (slots : ℕ) (above : List Stream) (stream : Stream) → AreLegalStreams slots above → IsLegalStream slots stream → arrival_above above ≤ stream.at → length above < 10000
    → AreLegalStreams slots (above ++ stream ∷ [])
more_legal slots above stream before is after few =
    record {
      each = All-push (IsLegalStream slots) above stream before.each is;
      in_order = all_pairs_push (λ earlier later. earlier.at ≤ later.at) above stream before.in_order (λ k d inside. earlier_at above stream.at k d before.in_order after inside);
      few = omega (arith, length-append above (stream ∷ []));
    }
