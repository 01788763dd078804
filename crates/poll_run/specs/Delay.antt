-- *Polling*: how long a request waits until its frame is sent, in a polled run. Cycles are elementary cycles.
use Rattle.std.specs.Prelude.{◌≡◌, ℕ, ◌+◌, ◌<◌, ◌≤◌, List, length, Contains, Option, Some, option_map}
use Rattle.can_frame.specs.declared.data_frame.TimedFrame.{TimedFrame}
use Rattle.cycle_layout.specs.Layout.{CycleLayout}
use Rattle.requirement_table.specs.declared.entries.Placed.{Placed}
use Rattle.requirement_table.specs.Instance.{Exists, IsLastCycle, release_of, released_by}
use Rattle.requirement_table.specs.Opening.{Opening}
use Rattle.cycle_engine.specs.Cycle.{cycle_of}
use Rattle.kept_run.specs.Served.{IsServed}
use Rattle.sporadic_poll.specs.declared.stream.Stream.{Stream}
use Rattle.sporadic_poll.specs.Polled.{polled_bytes}
use Rattle.sporadic_poll.specs.Polling.{IsPolled, arrival_cycle}
use Rattle.sporadic_poll.specs.Ride.{bytes_with}

-- the length of an entry, in the cycles in which an instance of it is released
abbrev pub lengths_by : Placed → ℕ → Option ℕ
lengths_by p cycle = option_map (λ k. p.entry.length) (released_by p cycle)

-- the premises, of a placed entry and of a request of its slot, which arrives in a cycle a. The requests up to it arrive
-- at least a period apart, counted in cycles, and have fewer bytes than the entry's length. An instance of the entry is
-- released in each span of a period among the cycles from the first of these arrivals to a + period. The cycles up to
-- a + period + deadline - 1 were run: the request may be sent in the last of them
pub record MayRide (layout : CycleLayout) (streams : List Stream) (next : ℕ) (p : Placed) (place : ℕ) (request : Stream)
    : Type 0 where
  pub polled : IsPolled layout.cycle streams p.entry.slot (lengths_by p) p.entry.period p.entry.length place request
  pub run : arrival_cycle layout.cycle request + p.entry.period + p.entry.deadline ≤ next

-- an instance of an entry of the slot took the request at a place: an instance of `p`, or of another entry that has or had
-- the slot. The instance was sent exactly once in its time, and that frame has the request's bytes. It is sent after the
-- cycle a in which the request arrives, and by the cycle a + period + deadline - 1, with period and deadline of `p`
pub record IsSentInTime (layout : CycleLayout) (streams : List Stream) (placed : List Placed) (openings : List Opening)
    (carried : ℕ → ℕ → Option ℕ) (trace : List TimedFrame) (p : Placed) (place : ℕ) (request : Stream) : Type 0 where
  pub entry : Placed
  pub number : ℕ
  pub stands : Contains placed entry
  pub its_slot : entry.entry.slot ≡ p.entry.slot
  pub exists : Exists entry (release_of entry number)
  pub took : carried entry.entry.slot (release_of entry number) ≡ Some place
  pub room : length request.payload < entry.entry.length
  pub last : ℕ
  pub is_last : IsLastCycle entry number last
  pub served : IsServed (polled_bytes streams carried) layout openings trace entry number last
  pub carries : served.sent.frame.bytes ≡ bytes_with entry.entry.length (Some request.payload)
  pub behind : arrival_cycle layout.cycle request < cycle_of layout served.sent
  pub by : cycle_of layout served.sent + 1 ≤ arrival_cycle layout.cycle request + p.entry.period + p.entry.deadline
