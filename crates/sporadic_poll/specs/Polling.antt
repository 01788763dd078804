-- *Polling*: how long a request waits for an instance, where the requests of its slot come no oftener than an entry of
-- the slot releases instances. Cycles are elementary cycles; a request arrives in the cycle AT / E.
use Rattle.std.specs.Prelude.{◌≡◌, ℕ, ◌+◌, ◌/◌, ◌<◌, ◌≤◌, List, length, Option, Some}
use Rattle.std.specs.List.{slice_get}
use Rattle.sporadic_poll.specs.declared.stream.Stream.{Stream}

-- the cycle in which a request arrives
abbrev pub arrival_cycle : ℕ → Stream → ℕ
arrival_cycle layout_cycle stream = stream.at / layout_cycle

-- the request at a place, one of the slot
pub record IsStreamAt (streams : List Stream) (slot place : ℕ) (stream : Stream) : Type 0 where
  pub at : slice_get streams place ≡ Some stream
  pub its_slot : stream.slot ≡ slot

-- in so many cycles from one cycle on an instance of an entry of this length is released
pub record IsReleasedWithin (lengths : ℕ → Option ℕ) (from period entry_length : ℕ) : Type 0 where
  pub release : ℕ
  pub from_on : from ≤ release
  pub within : release < from + period
  pub releases : lengths release ≡ Some entry_length

-- the premises: a cycle takes some time. Each of the requests of the slot up to the one at this place arrives at least
-- the period after those before it, and has fewer bytes than the length. In each span of a period, from the first of
-- these arrivals on until a period after the last, an instance of the entry is released
pub record IsPolled (layout_cycle : ℕ) (streams : List Stream) (slot : ℕ) (lengths : ℕ → Option ℕ) (period entry_length place : ℕ)
    (request : Stream) : Type 0 where
  pub some_time : 0 < layout_cycle
  pub stands : IsStreamAt streams slot place request
  pub spaced : (one other : ℕ) (before behind : Stream) → one < other → other ≤ place
      → IsStreamAt streams slot one before
      → IsStreamAt streams slot other behind
      → arrival_cycle layout_cycle before + period ≤ arrival_cycle layout_cycle behind
  pub short : (one : ℕ) (before : Stream) → one ≤ place → IsStreamAt streams slot one before
      → length before.payload < entry_length
  pub released : (one from : ℕ) (before : Stream) → one ≤ place → IsStreamAt streams slot one before
      → arrival_cycle layout_cycle before ≤ from → from ≤ arrival_cycle layout_cycle request + 1
      → IsReleasedWithin lengths from period entry_length

-- the request at a place is carried by an instance that is released within a period after the cycle of its arrival
pub record IsCarriedInTime (layout_cycle : ℕ) (carried : ℕ → Option ℕ) (period place : ℕ) (request : Stream) : Type 0 where
  pub release : ℕ
  pub after : arrival_cycle layout_cycle request < release
  pub by : release ≤ arrival_cycle layout_cycle request + period
  pub took : carried release ≡ Some place
