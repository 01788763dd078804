-- What became of the requests of a streams file in the cycles that were opened so far, and the frames of a cycle with
-- the requests that they carry.
use Rattle.std.specs.Prelude.{◌≡◌, ◌↔◌, ℕ, ◌+◌, ◌-◌, ◌<◌, ◌≤◌, ◌&&◌, true, nat_lt, nat_le, if◌then◌else◌, List, [], ◌∷◌}
use Rattle.std.specs.Prelude.{All, Contains, length, map, fold, set, take, get_or}
use Rattle.std.specs.Prelude.{Option, Some, None, IfSome, IsSomeAnd, option_map, option_and_then, unwrap_or}
use Rattle.std.specs.List.{slice_get}
use Rattle.profile.specs.Limits.{first_identifier}
use Rattle.can_frame.specs.DataFrame.{DataFrame}
use Rattle.can_frame.specs.declared.data_frame.TimedFrame.{TimedFrame}
use Rattle.cycle_layout.specs.Layout.{CycleLayout}
use Rattle.requirement_table.specs.declared.entries.Placed.{Placed}
use Rattle.requirement_table.specs.Instance.{bytes_of, release_of}
use Rattle.requirement_table.specs.Opening.{Opening}
use Rattle.bit_sets.specs.Sets.{has_bit, most_slots}
use Rattle.requirement_table.specs.Table.{instance_in}
use Rattle.bus_line.specs.Trace.{Follows}
use Rattle.node_model.specs.Opening.{end_of_cycle, start_of}
use Rattle.cycle_engine.specs.Cycle.{FitsWindow}
use Rattle.cycle_engine.specs.Offered.{offered_in}
use Rattle.cycle_engine.specs.SyncWindow.{back_to_back}
use Rattle.sporadic_poll.specs.declared.fate.Fate.{Fate}
use Rattle.sporadic_poll.specs.declared.fate.Fate.TheVariants.{Waits, Taken, Sent}
use Rattle.sporadic_poll.specs.declared.fate.Ride.{Ride}
use Rattle.sporadic_poll.specs.declared.stream.Stream.{Stream}
use Rattle.sporadic_poll.specs.Polled.{is_polled, polled_bytes}
use Rattle.sporadic_poll.specs.Ride.{IsOfSlot, IsRide, length_released}
use Rattle.sporadic_poll.specs.Waiting.{HasTaken, Queued}

-- requests and which of them wait; for each slot the request that was taken last; and what became of each request
pub record Riding : Type 0 where
  pub queued : Queued
  pub latest : List (Option Ride)
  pub fates : List Fate

-- the cycle of the release of the instance that took a request, by what became of the request
abbrev pub release_noted : Fate → Option ℕ
release_noted Waits = None
release_noted (Taken release) = Some release
release_noted (Sent release cycle) = Some release

-- the request at a place was sent
pub record IsSent (fates : List Fate) (place : ℕ) : Type 0 where
  pub release : ℕ
  pub cycle : ℕ
  pub is : slice_get fates place ≡ Some (Sent release cycle)

-- the cycle of the release of the instance that took the request at a place, where it is noted that one took it
abbrev pub taken_in : List Fate → ℕ → Option ℕ
taken_in fates place = option_and_then release_noted (slice_get fates place)

-- what is true of the lists and the set that a run keeps: a fate for each request, for each slot the request that was
-- taken last, and the slots of which there are requests
pub record AreRidesKept (queued : Queued) (polled : ℕ) (latest : List (Option Ride)) (fates : List Fate) : Type 0 where
  pub each : length fates ≡ length queued.streams
  pub slots : length latest ≡ length queued.next
  pub few : length queued.next ≤ most_slots
  pub known : All (λ stream. stream.slot < length queued.next) queued.streams
  pub are_polled : (slot : ℕ) → has_bit polled slot ≡ is_polled queued.streams slot
  pub inside : (slot : ℕ) → IfSome (get_or latest slot None) (λ ride. ride.place < length queued.streams)

-- a request of the slot that is known to be taken by the instance that was released in a cycle
pub record IsRequestTaken (slot : ℕ) (riding : Riding) (place release : ℕ) : Type 0 where
  pub of_slot : IsOfSlot riding.queued.streams slot place
  pub noted : taken_in riding.fates place ≡ Some release

-- what is known of a slot before a cycle is what its instances took that were released before it
pub record HasRidden (slot : ℕ) (carried : ℕ → Option ℕ) (cycle : ℕ) (riding : Riding) : Type 0 where
  pub taken : HasTaken riding.queued.streams slot carried cycle (get_or riding.queued.next slot 0)
  pub noted : (place release : ℕ) → carried release ≡ Some place → release < cycle
      → IsRequestTaken slot riding place release
  pub only : (place release : ℕ) → IsRequestTaken slot riding place release
      → (release < cycle) × (carried release ≡ Some place)
  pub latest : IfSome (get_or riding.latest slot None) (λ ride. carried ride.release ≡ Some ride.place)
  pub none_later : (place release : ℕ) → carried release ≡ Some place → release < cycle
      → IsSomeAnd (get_or riding.latest slot None) (λ ride. release ≤ ride.release)

-- the release of the slot's instance that may be sent in a cycle
abbrev pub release_in : List Placed → ℕ → ℕ → Option ℕ
release_in placed slot cycle = option_map (λ i. release_of i.placed i.number) (instance_in placed slot cycle)

-- the request at a place was sent in a cycle: that was opened and flags the slot of the request, and the slot's
-- instance that may be sent in it was released in a cycle, and took the request. An instance is sent once
pub record IsRidden (streams : List Stream) (openings : List Opening) (carried : ℕ → ℕ → Option ℕ)
    (place release cycle : ℕ) : Type 0 where
  pub stream : Stream
  pub at : slice_get streams place ≡ Some stream
  pub opening : Opening
  pub opened : Contains openings opening
  pub in_cycle : opening.cycle ≡ cycle
  pub flagged : has_bit opening.mask stream.slot ≡ true
  pub released : release_in opening.placed stream.slot cycle ≡ Some release
  pub took : carried stream.slot release ≡ Some place

-- the same requests are noted as sent
abbrev pub SameSent : List Fate → List Fate → Type 0
SameSent old new = (place release cycle : ℕ)
    → (slice_get new place ≡ Some (Sent release cycle)) ↔ (slice_get old place ≡ Some (Sent release cycle))

-- of each request the fate says whether it was sent in one of these openings, and then in which one
pub record AreFates (streams : List Stream) (openings : List Opening) (carried : ℕ → ℕ → Option ℕ) (fates : List Fate)
    : Type 0 where
  pub sent : (place release cycle : ℕ) → slice_get fates place ≡ Some (Sent release cycle)
      → IsRidden streams openings carried place release cycle
  pub all : (place release cycle : ℕ) → IsRidden streams openings carried place release cycle → IsSent fates place

-- what is known before a cycle of all slots
abbrev pub HaveRidden : (ℕ → ℕ → Option ℕ) → ℕ → Riding → Type 0
HaveRidden carried cycle riding =
    (slot : ℕ) → slot < length riding.queued.next → HasRidden slot (carried slot) cycle riding

-- *Ride* of each slot, where these are the lengths of the entries of which instances are released; in an opened cycle
-- they are those of the placed entries
pub record AreRidesAt (layout_cycle : ℕ) (streams : List Stream) (opening : Opening)
    (lengths carried : ℕ → ℕ → Option ℕ) : Type 0 where
  pub each : (slot : ℕ) → slot < most_slots → IsRide layout_cycle streams slot (lengths slot) (carried slot)
  pub here : (slot : ℕ) → slot < most_slots
      → lengths slot opening.cycle ≡ length_released opening.placed slot opening.cycle

-- an opened cycle, without requests, was run on the bus: its frames follow frames that started before it, each flagged
-- slot has an instance that may be sent, and together they fit into the largest synchronous window
pub record IsPlainCycle (layout : CycleLayout) (opening : Opening) (frames : List TimedFrame) : Type 0 where
  pub past : List TimedFrame
  pub before : All (λ sent. sent.start < start_of layout opening) past
  pub fits : FitsWindow layout opening
  pub follows : Follows (offered_in bytes_of layout [] opening) past
      (start_of layout opening) (end_of_cycle layout opening) frames

-- The frames of the slots, with the requests that they carry

-- the slot of which this is a frame, by its identifier
abbrev pub slot_sent : DataFrame → Option ℕ
slot_sent frame =
    if nat_le first_identifier frame.identifier && nat_lt frame.identifier (first_identifier + most_slots)
    then Some (frame.identifier - first_identifier)
    else None

-- the bytes of the slot's instance that may be sent in the cycle, of a polled slot; and else the given ones
abbrev pub bytes_or : List Stream → (ℕ → ℕ → Option ℕ) → List Placed → ℕ → ℕ → List ℕ → List ℕ
bytes_or streams carried placed cycle slot bytes =
    if is_polled streams slot
    then unwrap_or (option_map (polled_bytes streams carried) (instance_in placed slot cycle)) bytes
    else bytes

-- the frame with these bytes
abbrev pub polled_frame : List Stream → (ℕ → ℕ → Option ℕ) → List Placed → ℕ → DataFrame → DataFrame
polled_frame streams carried placed cycle frame = unwrap_or
    (option_map (λ slot. record {
      identifier = frame.identifier;
      bytes = bytes_or streams carried placed cycle slot frame.bytes;
    }) (slot_sent frame)) frame

-- the frames from the first frame of a slot on, with other bytes, one right after the other from the start of the
-- first one, as many of them as start before `until`
abbrev pub sent_anew : (DataFrame → DataFrame) → ℕ → List TimedFrame → List TimedFrame
sent_anew polled until [] = []
sent_anew polled until (sent ∷ later) = back_to_back (map (λ it. polled it.frame) (sent ∷ later)) sent.start until

-- the request that the slot's instance carries that may be sent in the cycle, of a polled slot
abbrev pub ride_sent : List Stream → (ℕ → ℕ → Option ℕ) → List Placed → ℕ → ℕ → Option Ride
ride_sent streams carried placed cycle slot =
    if is_polled streams slot
    then option_and_then
    (λ release. option_map (λ place. record { release = release; place = place }) (carried slot release))
    (release_in placed slot cycle)
    else None

-- the fates after a frame that carries a request
abbrev pub noted : ℕ → List Fate → Option Ride → List Fate
noted cycle fates None = fates
noted cycle fates (Some ride) = set fates ride.place (Sent ride.release cycle)

-- the fates after frames of the cycle
abbrev pub noted_all : List Stream → (ℕ → ℕ → Option ℕ) → List Placed → ℕ → List Fate → List TimedFrame → List Fate
noted_all streams carried placed cycle fates frames =
    fold (λ so_far sent. noted cycle so_far
    (option_and_then (ride_sent streams carried placed cycle) (slot_sent sent.frame))) fates frames

-- of these frames of a cycle the first ones were noted as sent, and nothing else changed
pub record IsNoting (cycle : ℕ) (placed : List Placed) (frames : List TimedFrame) (old new : Riding) (count : ℕ)
    : Type 0 where
  pub queued : new.queued ≡ old.queued
  pub noted_so_far : (carried : ℕ → ℕ → Option ℕ) → HaveRidden carried (cycle + 1) old
      → HaveRidden carried (cycle + 1) new
      × (new.fates ≡ noted_all old.queued.streams carried placed cycle old.fates (take count frames))
