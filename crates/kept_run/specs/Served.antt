-- What is owed by a trace: each instance whose last cycle was run was sent whole, exactly once, in its time; nothing
-- else was sent in its slot; and no frame of a request touches a trigger part or a synchronous window. Times are bit
-- times.
use Rattle.std.specs.Prelude.{◌≡◌, ℕ, ◌+◌, ◌<◌, ◌≤◌, ◌&&◌, ◌==◌, nat_le, List, [], ◌∷◌, filter, All, Contains}
use Rattle.profile.specs.Limits.{first_identifier, least_asynchronous}
use Rattle.can_frame.specs.declared.data_frame.TimedFrame.{TimedFrame}
use Rattle.cycle_layout.specs.Layout.{CycleLayout, async_open}
use Rattle.requirement_table.specs.declared.entries.Placed.{Placed}
use Rattle.requirement_table.specs.Instance.{Exists, Instance, IsLastCycle, MaySend, release_of}
use Rattle.requirement_table.specs.Opening.{Opening}
use Rattle.bit_sets.specs.Sets.{most_slots}
use Rattle.change_protocol.specs.Applied.{without_end}
use Rattle.bus_line.specs.Trace.{end_of}
use Rattle.node_model.specs.Opening.{end_of_cycle, window_start}
use Rattle.cycle_engine.specs.Cycle.{cycle_of}

-- the frames with this identifier that start in the cycles from `first` to `last`
abbrev pub frames_of : CycleLayout → ℕ → ℕ → ℕ → List TimedFrame → List TimedFrame
frames_of layout identifier first last trace =
    filter (λ sent. (sent.frame.identifier == identifier)
    && (nat_le first (cycle_of layout sent) && nat_le (cycle_of layout sent) last)) trace

-- the frame lies in the synchronous window of the cycle in which it starts: it starts at or after (c + 1)·E - l, and
-- ends at or before (c + 1)·E, where the worst lengths of the cycle's flagged slots sum to l
pub record IsSentInWindow (layout : CycleLayout) (openings : List Opening) (sent : TimedFrame) : Type 0 where
  pub opening : Opening
  pub opened : Contains openings opening
  pub cycle : opening.cycle ≡ cycle_of layout sent
  pub after : window_start layout opening ≤ sent.start
  pub before : end_of sent ≤ end_of_cycle layout opening

-- an instance sends the same bytes also where its entry got an end later
abbrev pub ForgetsEnds : (Instance → List ℕ) → Type 0
ForgetsEnds sends = (instance : Instance) → sends (without_end instance) ≡ sends instance

-- *Served*: of the instance `k` of an entry, whose last cycle is `last`, exactly one frame of the slot starts in the
-- cycles from the instance's release to its last one, within the synchronous window of its cycle, and it carries the
-- bytes that the instance sends
pub record IsServed (sends : Instance → List ℕ) (layout : CycleLayout) (openings : List Opening) (trace : List TimedFrame)
    (placed : Placed) (k last : ℕ) : Type 0 where
  pub sent : TimedFrame
  pub once : frames_of layout (first_identifier + placed.entry.slot) (release_of placed k) last trace ≡ sent ∷ []
  pub in_window : IsSentInWindow layout openings sent
  pub carries : sent.frame.bytes ≡ sends (record { placed = placed; number = k })

-- every instance of these entries whose last cycle is below `next` is served
abbrev pub AllServed : (Instance → List ℕ) → CycleLayout → List Placed → List Opening → ℕ → List TimedFrame → Type 0
AllServed sends layout placed openings next trace = (p : Placed) (k last : ℕ) → Contains placed p
    → Exists p (release_of p k) → IsLastCycle p k last → last < next → IsServed sends layout openings trace p k last

-- the frame starts in a cycle in which an instance of the slot may be sent
pub record IsFrameOwed (layout : CycleLayout) (placed : List Placed) (slot : ℕ) (sent : TimedFrame) : Type 0 where
  pub p : Placed
  pub k : ℕ
  pub stands : Contains placed p
  pub of_slot : p.entry.slot ≡ slot
  pub in_time : MaySend p k (cycle_of layout sent)

-- *No strangers*: no frame of a slot starts in another cycle
abbrev pub NoStrangers : CycleLayout → List Placed → List TimedFrame → Type 0
NoStrangers layout placed trace = (slot : ℕ) → slot < most_slots
    → All (λ sent. sent.frame.identifier ≡ first_identifier + slot → IsFrameOwed layout placed slot sent) trace

-- the frame lies within the asynchronous window of the cycle in which it starts
pub record IsGuarded (layout : CycleLayout) (openings : List Opening) (sent : TimedFrame) : Type 0 where
  pub opening : Opening
  pub opened : Contains openings opening
  pub cycle : opening.cycle ≡ cycle_of layout sent
  pub after : async_open layout opening.cycle ≤ sent.start
  pub before : end_of sent ≤ window_start layout opening

-- *Guarded*: no frame of a request touches a trigger part or a synchronous window; identifiers from 0x200 on are
-- those of requests
abbrev pub AllGuarded : CycleLayout → List Opening → List TimedFrame → Type 0
AllGuarded layout openings trace =
    All (λ sent. least_asynchronous ≤ sent.frame.identifier → IsGuarded layout openings sent) trace
