-- The bytes of polled slots: those of *Ride*, over the cycles that were opened.
use Rattle.std.specs.Prelude.{ℕ, ◌<◌, ◌==◌, Bool, nat_lt, if◌then◌else◌, List, length, find, Option, Some, None, option_and_then}
use Rattle.std.specs.List.{list_any, slice_get}
use Rattle.requirement_table.specs.Instance.{Instance, bytes_of, release_of}
use Rattle.requirement_table.specs.Opening.{Opening}
use Rattle.bit_sets.specs.Sets.{most_slots}
use Rattle.sporadic_poll.specs.declared.stream.Stream.{Stream}
use Rattle.sporadic_poll.specs.Ride.{IsRide, bytes_with, length_released}

-- the length of the entry of which an instance of the slot is released in a cycle, where one is, by the entries that were
-- placed when the cycle was opened
abbrev pub lengths_of : List Opening → ℕ → ℕ → Option ℕ
lengths_of openings slot cycle =
    option_and_then (λ opening. length_released opening.placed slot cycle) (find (λ opening. opening.cycle == cycle) openings)

-- which request each instance of each slot takes, by slot and release: *Ride* of each slot
abbrev pub AreRides : ℕ → List Stream → List Opening → (ℕ → ℕ → Option ℕ) → Type 0
AreRides layout_cycle streams openings carried = (slot : ℕ) → slot < most_slots
    → IsRide layout_cycle streams slot (lengths_of openings slot) (carried slot)

-- a slot is polled where it occurs in the streams file
abbrev pub is_polled : List Stream → ℕ → Bool
is_polled streams slot = list_any (λ stream. stream.slot == slot) streams

-- the payload of a request, where there is room for it and the mark in an entry of this length. Where an instance took the
-- request there is room
abbrev pub payload_of : ℕ → Stream → Option (List ℕ)
payload_of entry_length stream = if nat_lt (length stream.payload) entry_length then Some stream.payload else None

-- so of the request at a place
abbrev pub payload_at : List Stream → ℕ → ℕ → Option (List ℕ)
payload_at streams entry_length place = option_and_then (payload_of entry_length) (slice_get streams place)

-- the payload of the request that an instance took, where it took one
abbrev pub payload_taken : List Stream → (ℕ → ℕ → Option ℕ) → Instance → Option (List ℕ)
payload_taken streams carried instance = option_and_then (payload_at streams instance.placed.entry.length)
    (carried instance.placed.entry.slot (release_of instance.placed instance.number))

-- the bytes that an instance sends: of a polled slot the request that it took, and else its number
abbrev pub polled_bytes : List Stream → (ℕ → ℕ → Option ℕ) → Instance → List ℕ
polled_bytes streams carried instance =
    if is_polled streams instance.placed.entry.slot
    then bytes_with instance.placed.entry.length (payload_taken streams carried instance)
    else bytes_of instance
