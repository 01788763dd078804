-- How the requests of a streams file wait for instances, slot by slot: which of a slot is the next one, and how that
-- stands to *Ride*.
use Rattle.std.specs.Prelude.{◌≡◌, ℕ, zero, suc, ◌+◌, ◌*◌, ◌<◌, ◌≤◌, ◌==◌, ◌&&◌, nat_lt, if◌then◌else◌}
use Rattle.std.specs.Prelude.{List, [], ◌∷◌, length, drop, get_or, Option, Some, None, option_and_then, All}
use Rattle.std.specs.List.{slice_get}
use Rattle.sporadic_poll.specs.declared.stream.Stream.{Stream}
use Rattle.sporadic_poll.specs.Ride.{IsOfSlot, IsTakenBefore}

-- how many requests stand before the first of the slot; all of them where there is none
abbrev pub before_first : ℕ → List Stream → ℕ
before_first slot [] = 0
before_first slot (stream ∷ streams) = if stream.slot == slot then 0 else suc (before_first slot streams)

-- the place of the first request of the slot from a place on; the number of requests where there is none
unfoldable pub first_from : List Stream → ℕ → ℕ → ℕ
first_from streams slot from = from + before_first slot (drop from streams)

-- requests, in the order of the file, and for each slot the place of the next one that waits; the number of requests
-- where none waits
pub record Queued : Type 0 where
  pub streams : List Stream
  pub next : List ℕ

-- which request an instance of an entry of this length takes that is released at this time, where the next request of
-- its slot stands at a place: that one where it can be carried, and else none
unfoldable pub taken_from : List Stream → ℕ → ℕ → ℕ → Option ℕ
taken_from streams time entry_length place =
    option_and_then
    (λ stream. if nat_lt stream.at time && nat_lt (length stream.payload) entry_length then Some place else None)
    (slice_get streams place)

-- the place of the next request of a slot, where the next one stood at a place and this one was taken
abbrev pub next_after : List Stream → ℕ → ℕ → Option ℕ → ℕ
next_after streams slot next None = next
next_after streams slot next (Some place) = first_from streams slot (place + 1)

-- the requests of a slot that instances took which were released before the cycle are those at the places before `next`,
-- and there stands the next one
pub record HasTaken (streams : List Stream) (slot : ℕ) (carried : ℕ → Option ℕ) (cycle next : ℕ) : Type 0 where
  pub within : next ≤ length streams
  pub stands : (stream : Stream) → slice_get streams next ≡ Some stream → stream.slot ≡ slot
  pub all : (place : ℕ) → place < next → IsOfSlot streams slot place → IsTakenBefore carried cycle place
  pub only : (place : ℕ) → IsTakenBefore carried cycle place → place < next

-- what is true of the links between requests: behind each place stands that of the next request of its slot, and for
-- each slot the place of its next request that waits
pub record AreLinked (slots : ℕ) (streams : List Stream) (later next : List ℕ) : Type 0 where
  pub all_later : length later ≡ length streams
  pub all_slots : length next ≡ slots
  pub known : All (λ stream. stream.slot < slots) streams
  pub links : (place : ℕ) (stream : Stream) → slice_get streams place ≡ Some stream
      → get_or later place 0 ≡ first_from streams stream.slot (place + 1)
  pub heads : (slot : ℕ) → slot < slots → first_from streams slot (get_or next slot 0) ≡ get_or next slot 0
  pub inside : (slot : ℕ) → slot < slots → get_or next slot 0 ≤ length streams

-- The requests that the instances of a slot take, one release after the other

-- which request an instance takes that is released in a cycle, where the next request of the slot stands at a place;
-- none where no instance is released
abbrev pub taken_at : ℕ → List Stream → (ℕ → Option ℕ) → ℕ → ℕ → Option ℕ
taken_at layout_cycle streams lengths cycle next =
    option_and_then (λ entry_length. taken_from streams (cycle * layout_cycle) entry_length next) (lengths cycle)

-- the place of the next request of a slot that waits before a cycle
unfoldable pub next_before : ℕ → List Stream → ℕ → (ℕ → Option ℕ) → ℕ → ℕ
next_before layout_cycle streams slot lengths zero = first_from streams slot 0
next_before layout_cycle streams slot lengths (suc cycle) =
    next_after streams slot (next_before layout_cycle streams slot lengths cycle)
    (taken_at layout_cycle streams lengths cycle (next_before layout_cycle streams slot lengths cycle))

-- the request that an instance takes that is released in a cycle
abbrev pub ride_of : ℕ → List Stream → ℕ → (ℕ → Option ℕ) → ℕ → Option ℕ
ride_of layout_cycle streams slot lengths cycle =
    taken_at layout_cycle streams lengths cycle (next_before layout_cycle streams slot lengths cycle)
