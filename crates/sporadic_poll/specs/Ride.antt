-- *Ride*: which request of a streams file the instances of a polled slot carry.
--
-- The instances of a slot are told apart by the cycles of their releases, and the requests by their places in the file,
-- from 0. `lengths cycle` is the length of the entry of which an instance of the slot is released in a cycle, where one
-- is. `carried cycle` is the place of the request that this instance took, where it took one.
use Rattle.std.specs.Prelude.{◌≡◌, ℕ, zero, suc, ◌-◌, ◌*◌, ◌<◌, ◌↔◌, nat_eq}
use Rattle.std.specs.Prelude.{if◌then◌else◌, List, [], ◌∷◌, ◌++◌, length, replicate, Contains, Option, Some, None, option_and_then}
use Rattle.std.specs.List.{slice_get}
use Rattle.requirement_table.specs.declared.entries.Placed.{Placed}
use Rattle.requirement_table.specs.Instance.{Instance, IsReleasedIn, release_of}
use Rattle.requirement_table.specs.Table.{instance_in}
use Rattle.sporadic_poll.specs.declared.stream.Stream.{Stream}

-- the request at a place is one of the slot
pub record IsOfSlot (streams : List Stream) (slot place : ℕ) : Type 0 where
  pub stream : Stream
  pub at : slice_get streams place ≡ Some stream
  pub its_slot : stream.slot ≡ slot

-- an instance that was released before the cycle took the request at a place
pub record IsTakenBefore (carried : ℕ → Option ℕ) (cycle place : ℕ) : Type 0 where
  pub release : ℕ
  pub earlier : release < cycle
  pub took : carried release ≡ Some place

-- the request at a place is the first of its slot, in the order of the file, that no instance took which was released
-- before the cycle
pub record IsFirstLeft (streams : List Stream) (slot : ℕ) (carried : ℕ → Option ℕ) (cycle place : ℕ) : Type 0 where
  pub of_slot : IsOfSlot streams slot place
  pub left : IsTakenBefore carried cycle place → ⊥
  pub first : (before : ℕ) → before < place → IsOfSlot streams slot before → IsTakenBefore carried cycle before

-- a request that an instance of an entry of this length, released at this time, can carry: it arrived before that, and
-- has fewer bytes than the length, so that there is room for the mark
pub record CanCarry (time length_of_entry : ℕ) (stream : Stream) : Type 0 where
  pub arrived : stream.at < time
  pub short : length stream.payload < length_of_entry

-- an instance of an entry of this length, released in the cycle, takes the request at a place
pub record Takes (layout_cycle : ℕ) (streams : List Stream) (slot : ℕ) (carried : ℕ → Option ℕ) (cycle entry_length place : ℕ)
    : Type 0 where
  pub stream : Stream
  pub at : slice_get streams place ≡ Some stream
  pub first : IsFirstLeft streams slot carried cycle place
  pub can : CanCarry (cycle * layout_cycle) entry_length stream

-- *Ride*: an instance takes the first request of its slot that no earlier one took, where it can carry it, and else
-- none; where no instance is released, nothing is taken
pub record IsRide (layout_cycle : ℕ) (streams : List Stream) (slot : ℕ) (lengths : ℕ → Option ℕ) (carried : ℕ → Option ℕ)
    : Type 0 where
  pub each : (cycle entry_length place : ℕ) → lengths cycle ≡ Some entry_length
      → (carried cycle ≡ Some place) ↔ Takes layout_cycle streams slot carried cycle entry_length place
  pub no_more : (cycle : ℕ) → lengths cycle ≡ None → carried cycle ≡ None

-- the length of the entry of an instance, where that is released in the cycle
abbrev pub length_at : ℕ → Instance → Option ℕ
length_at cycle instance =
    if nat_eq (release_of instance.placed instance.number) cycle then Some instance.placed.entry.length else None

-- the length of the entry of which an instance of the slot is released in a cycle, where these entries are placed: such an
-- instance may be sent in that cycle
abbrev pub length_released : List Placed → ℕ → ℕ → Option ℕ
length_released placed slot cycle = option_and_then (length_at cycle) (instance_in placed slot cycle)

-- an instance of an entry of this length is released in the cycle, of an entry of the slot that stands in the list
pub record Releases (placed : List Placed) (slot cycle entry_length : ℕ) : Type 0 where
  pub entry : Placed
  pub number : ℕ
  pub stands : Contains placed entry
  pub of_slot : entry.entry.slot ≡ slot
  pub its_length : entry.entry.length ≡ entry_length
  pub released : IsReleasedIn entry number cycle

-- the bytes of an instance of an entry of a length above 0: 1, the payload of the request that it took, and zeros up to
-- the length; and zeros where it took none
abbrev pub bytes_with : ℕ → Option (List ℕ) → List ℕ
bytes_with zero taken = []
bytes_with (suc rest) None = replicate (suc rest) 0
bytes_with (suc rest) (Some payload) = 1 ∷ (payload ++ replicate (rest - length payload) 0)
