-- The requests that the frames of a cycle carry, by what is known of the slots.
use Rattle.std.proofs.Common.{◌≡◌, ◌≢◌, inl, inr, ℕ, ◌<◌, ◌==◌, true, List, [], ◌∷◌, All, length, set, Option, Some, None, IfSome, option_map, option_and_then, refl, sym, arith}
use Rattle.std.specs.List.{slice_get}
use Rattle.std.specs.Prelude.{unwrap_or}
use Rattle.std.proofs.lemmas.Bool.{eqb-true, or_cases}
use Rattle.std.proofs.lemmas.List.Elements.{All-head, All-tail}
use Rattle.std.proofs.lemmas.Option.{none-some, same_Some}
use Rattle.can_frame.specs.DataFrame.{DataFrame}
use Rattle.requirement_table.specs.declared.entries.Placed.{Placed}
use Rattle.requirement_table.specs.Instance.{Instance, release_of}
use Rattle.requirement_table.specs.Table.{IsWellPlaced, instance_in}
use Rattle.requirement_table.proofs.Shared.{found-in}
use Rattle.sporadic_poll.specs.declared.current.Current.{Current}
use Rattle.sporadic_poll.specs.declared.fate.Fate.{Fate}
use Rattle.sporadic_poll.specs.declared.fate.Fate.TheVariants.{Sent}
use Rattle.sporadic_poll.specs.declared.fate.Ride.{Ride}
use Rattle.sporadic_poll.specs.declared.stream.Stream.{Stream}
use Rattle.sporadic_poll.specs.Current.{current_of}
use Rattle.sporadic_poll.specs.Polled.{is_polled, payload_at, payload_of, polled_bytes}
use Rattle.sporadic_poll.specs.Ride.{IsOfSlot, bytes_with}
use Rattle.sporadic_poll.specs.Rides.{HasRidden, Riding, noted, polled_frame, release_in, ride_sent, slot_sent, taken_in}
use Rattle.sporadic_poll.specs.Waiting.{Queued}
use Rattle.sporadic_poll.proofs.Riding.{taken-other, taken-same, takes_elsewhere}

-- what is noted as taken by an instance is what it took
pub noted_by : (slot release cycle : ℕ) (carried : ℕ → Option ℕ) (riding : Riding) (result : Option ℕ) → IfSome result (IsOfSlot riding.queued.streams slot)
    → IfSome result (λ place. taken_in riding.fates place ≡ Some release)
    → (result ≡ None → (place : ℕ) → IsOfSlot riding.queued.streams slot place → taken_in riding.fates place ≢ Some release)
    → HasRidden slot carried cycle riding → release < cycle → result ≡ carried release
noted_by slot release cycle carried riding (Some place) of_slot noted none ridden before = grind arith
noted_by slot release cycle carried riding None of_slot noted none ridden before = by_case (carried release) refl
  where
    by_case : (took : Option ℕ) → carried release ≡ took → None ≡ took
    by_case None is = refl
    by_case (Some place) is =
        let it = ridden.noted place release is before in
        absurd (none refl place it.of_slot it.noted)

-- a polled slot is one of those of the requests
pub polled_known : (streams : List Stream) (slot slots : ℕ) → is_polled streams slot ≡ true → All (λ stream. stream.slot < slots) streams → slot < slots
polled_known [] slot slots is known = absurd (cc)
polled_known (stream ∷ streams) slot slots is known = elim (or_cases (stream.slot == slot) (is_polled streams slot) is) [
  | inl here ↦ omega (arith, eqb-true stream.slot slot here, All-head (λ s. s.slot < slots) stream streams known)
  | inr later ↦ polled_known streams slot slots later (All-tail (λ s. s.slot < slots) stream streams known)
]

-- the release of the instance that may be sent
pub release_by : (placed : List Placed) (slot cycle : ℕ) (current : Option Current) → current ≡ option_map current_of (instance_in placed slot cycle)
    → release_in placed slot cycle ≡ option_map (λ it. it.release) current
release_by placed slot cycle current is = by_found (instance_in placed slot cycle) is
  where
    by_found : (found : Option Instance) → current ≡ option_map current_of found → option_map (λ i. release_of i.placed i.number) found ≡ option_map (λ it. it.release) current
    by_found found is = grind arith

-- a request's place and the release of its instance
abbrev pub ride_by : ℕ → Option ℕ → Option Ride
ride_by release took = option_map (λ place. record { release = release; place = place }) took

-- what the frame of a polled slot carries
pub ride_polled : (streams : List Stream) (carried : ℕ → ℕ → Option ℕ) (placed : List Placed) (cycle slot : ℕ) (current : Current) → is_polled streams slot ≡ true
    → Some current ≡ option_map current_of (instance_in placed slot cycle) → ride_sent streams carried placed cycle slot ≡ ride_by current.release (carried slot current.release)
ride_polled streams carried placed cycle slot current polled is = grind (arith, release_by)

-- a frame that is sent leaves what is known of the slots
pub sent_keeps : (slot other cycle since : ℕ) (carried : ℕ → Option ℕ) (queued : Queued) (latest : List (Option Ride)) (fates : List Fate) (ride : Ride)
    → taken_in fates ride.place ≡ Some ride.release → ride.place < length fates
    → HasRidden slot carried since (record { queued = queued; latest = latest; fates = fates })
    → HasRidden slot carried since (record { queued = queued; latest = latest; fates = set fates ride.place (Sent ride.release cycle) })
sent_keeps slot other cycle since carried queued latest fates ride taken inside ridden =
    takes_elsewhere slot since carried (record { queued = queued; latest = latest; fates = fates })
    (record { queued = queued; latest = latest; fates = set fates ride.place (Sent ride.release cycle) }) refl refl refl
    (λ place of_slot. grind (arith, taken-same, taken-other))
    ridden

-- the bytes of an instance of a polled slot
pub bytes_polled : (streams : List Stream) (carried : ℕ → ℕ → Option ℕ) (placed : List Placed) (cycle slot : ℕ) (current : Current) (bytes : List ℕ) → IsWellPlaced placed
    → is_polled streams slot ≡ true → Some current ≡ option_map current_of (instance_in placed slot cycle)
    → unwrap_or (option_map (polled_bytes streams carried) (instance_in placed slot cycle)) bytes
    ≡ bytes_with current.length (option_and_then (payload_at streams current.length) (carried slot current.release))
bytes_polled streams carried placed cycle slot current bytes well polled is = by_found (instance_in placed slot cycle) refl is
  where
    by_found : (found : Option Instance) → instance_in placed slot cycle ≡ found → Some current ≡ option_map current_of found
        → unwrap_or (option_map (polled_bytes streams carried) found) bytes
        ≡ bytes_with current.length (option_and_then (payload_at streams current.length) (carried slot current.release))
    by_found None at same = absurd (none-some current (sym same))
    by_found (Some i) at same =
        let its = (found-in placed slot cycle i well at).of_slot in
        grind (arith, same_Some)

-- the bytes by what was taken
pub bytes_took : (streams : List Stream) (entry_length place : ℕ) (stream : Stream) (took : Option ℕ) → Some place ≡ took → slice_get streams place ≡ Some stream
    → bytes_with entry_length (payload_of entry_length stream) ≡ bytes_with entry_length (option_and_then (payload_at streams entry_length) took)
bytes_took streams entry_length place stream took is at = rw (← is, at) refl

pub bytes_none : (streams : List Stream) (entry_length : ℕ) (took : Option ℕ) → None ≡ took
    → bytes_with entry_length None ≡ bytes_with entry_length (option_and_then (payload_at streams entry_length) took)
bytes_none streams entry_length took is = rw (← is) refl

-- a frame of a polled slot
pub frame_polled : (streams : List Stream) (carried : ℕ → ℕ → Option ℕ) (placed : List Placed) (cycle slot : ℕ) (frame : DataFrame) (bytes : List ℕ) → slot_sent frame ≡ Some slot
    → is_polled streams slot ≡ true → unwrap_or (option_map (polled_bytes streams carried) (instance_in placed slot cycle)) frame.bytes ≡ bytes
    → polled_frame streams carried placed cycle frame ≡ record { identifier = frame.identifier; bytes = bytes }
frame_polled streams carried placed cycle slot frame bytes is polled same = rw (is, polled, same) refl
