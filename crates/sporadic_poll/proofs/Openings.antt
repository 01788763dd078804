-- *Ride* over openings, one by one.
use Rattle.std.proofs.Common.{◌≡◌, ◌≢◌, ℕ, zero, suc, ◌==◌, Bool, false, List, [], ◌∷◌, Contains, find, Option, Some, option_and_then, refl, sym, ap, ◌∙◌, ◌⊎◌, arith}
use Rattle.std.proofs.lemmas.Bool.{eq-eqb, ne_eqb}
use Rattle.requirement_table.specs.Opening.{Opening}
use Rattle.cycle_engine.specs.Offered.{AreOfDistinctCycles}
use Rattle.sporadic_poll.specs.declared.stream.Stream.{Stream}
use Rattle.sporadic_poll.specs.Polled.{AreRides, lengths_of}
use Rattle.sporadic_poll.specs.Ride.{length_released}
use Rattle.sporadic_poll.specs.Rides.{AreRidesAt}

-- an element of a list is its first one or one of the others
pub Contains-cases : {X : Type 0} (x : X) (xs : List X) (y : X) → Contains (x ∷ xs) y → (x ≡ y) ⊎ Contains xs y
Contains-cases x xs y h0 = grind arith

find-later : (one : Opening) (openings : List Opening) (test : Opening → Bool) → test one ≡ false → find test (one ∷ openings) ≡ find test openings
find-later one openings test is = rw is refl

-- the opening of a cycle is the one that is found for it
found : (openings : List Opening) (opening : Opening) → AreOfDistinctCycles openings → Contains openings opening
    → find (λ other. other.cycle == opening.cycle) openings ≡ Some opening
found [] opening distinct (k, within, is) = absurd (omega (arith, within))
found (one ∷ openings) opening distinct (zero, within, is) = grind (arith, eq-eqb)
found (one ∷ openings) opening distinct (suc k, within, is) =
    let apart : one.cycle ≢ opening.cycle = λ same. distinct 0 (suc k) opening (omega arith) within (same ∙ ap (λ (o : Opening). o.cycle) (sym is)) in
    find-later one openings (λ other. other.cycle == opening.cycle) (ne_eqb one.cycle opening.cycle apart)
    ∙ found openings opening (λ i j d before inside. distinct (suc i) (suc j) d (omega arith) (omega arith)) (k, omega arith, is)

pub rides_at : (layout_cycle : ℕ) (streams : List Stream) (openings : List Opening) (opening : Opening) (carried : ℕ → ℕ → Option ℕ) → AreOfDistinctCycles openings
    → Contains openings opening → AreRides layout_cycle streams openings carried → AreRidesAt layout_cycle streams opening (lengths_of openings) carried
rides_at layout_cycle streams openings opening carried distinct stands rides =
    record {
      each = rides;
      here = λ slot known. ap (option_and_then (λ it. length_released it.placed slot opening.cycle)) (found openings opening distinct stands);
    }
