-- What an opened cycle sends on the bus, behind the cycles before it. Times are bit times.
use Rattle.std.specs.Prelude.{⊤, ◌≡◌, ℕ, ◌+◌, ◌/◌, ◌<◌, ◌≤◌, ◌⊎◌, ◌==◌}
use Rattle.std.specs.Prelude.{true, false, List, [], ◌∷◌, ◌++◌, All, filter, map, Some, IsSome}
use Rattle.profile.specs.Limits.{first_identifier, least_asynchronous}
use Rattle.can_frame.specs.declared.data_frame.TimedFrame.{TimedFrame}
use Rattle.cycle_layout.specs.Layout.{CycleLayout, async_open}
use Rattle.bit_sets.specs.Sets.{has_bit, most_slots}
use Rattle.requirement_table.specs.Table.{instance_in}
use Rattle.trigger_codec.specs.Bytes.{trigger_frame}
use Rattle.async_window.specs.declared.request.Request.{Request}
use Rattle.bus_line.specs.Trace.{Follows, end_of}
use Rattle.requirement_table.specs.Instance.{Instance}
use Rattle.requirement_table.specs.Opening.{Opening, width_of}
use Rattle.node_model.specs.Opening.{start_of, end_of_cycle, window_start}
use Rattle.node_model.specs.Offered.{bytes_sent, trigger_frames}
use Rattle.cycle_engine.specs.Offered.{IsCanTrace, offered_in}

-- the cycle in which a frame starts
abbrev pub cycle_of : CycleLayout → TimedFrame → ℕ
cycle_of layout sent = sent.start / layout.cycle

-- the frames of a trace that start in a cycle
abbrev pub frames_in : CycleLayout → ℕ → List TimedFrame → List TimedFrame
frames_in layout cycle trace = filter (λ sent. cycle_of layout sent == cycle) trace

-- the frames of a slot
abbrev pub of_slot : ℕ → List TimedFrame → List TimedFrame
of_slot slot frames = filter (λ sent. sent.frame.identifier == first_identifier + slot) frames

-- exactly one frame of the slot is among these; it lies in the cycle's synchronous window, and carries the bytes that the
-- instance sends which may be sent in the cycle
pub record IsSentOnce (sends : Instance → List ℕ) (layout : CycleLayout) (opening : Opening) (frames : List TimedFrame) (slot : ℕ) : Type 0 where
  pub sent : TimedFrame
  pub once : of_slot slot frames ≡ sent ∷ []
  pub after : window_start layout opening ≤ sent.start
  pub within : sent.start < end_of_cycle layout opening
  pub before : end_of sent ≤ end_of_cycle layout opening
  pub carries : bytes_sent sends opening slot ≡ Some sent.frame.bytes

-- a frame of a flagged slot, in the cycle's synchronous window
pub record IsSlotFrame (layout : CycleLayout) (opening : Opening) (sent : TimedFrame) : Type 0 where
  pub slot : ℕ
  pub known : slot < most_slots
  pub flagged : has_bit opening.mask slot ≡ true
  pub identifier : sent.frame.identifier ≡ first_identifier + slot
  pub after : window_start layout opening ≤ sent.start
  pub before : end_of sent ≤ end_of_cycle layout opening

-- a frame of a request, within the cycle's asynchronous window: it touches neither the trigger part nor the synchronous
-- window
pub record IsRequestFrame (layout : CycleLayout) (opening : Opening) (sent : TimedFrame) : Type 0 where
  pub identifier : least_asynchronous ≤ sent.frame.identifier
  pub after : async_open layout opening.cycle ≤ sent.start
  pub before : end_of sent ≤ window_start layout opening

-- frames one at once behind the other, from a time on
abbrev pub AreAtOnce : ℕ → List TimedFrame → Type 0
AreAtOnce at [] = ⊤
AreAtOnce at (sent ∷ later) = (sent.start ≡ at) × AreAtOnce (end_of sent) later

-- the frames of a cycle: its trigger frames, the first at its start and each other one at once behind the one before it,
-- ended before the synchronous window; behind them only frames of requests in the asynchronous window and frames of
-- flagged slots in the synchronous window, and of each flagged slot exactly one
pub record RunsCycle (sends : Instance → List ℕ) (layout : CycleLayout) (opening : Opening) (frames : List TimedFrame) : Type 0 where
  pub trigger : TimedFrame
  pub second : List TimedFrame
  pub later : List TimedFrame
  pub all_frames : frames ≡ trigger ∷ (second ++ later)
  pub starts : trigger.start ≡ start_of layout opening
  pub is_trigger : trigger.frame ≡ trigger_frame opening.cycle (width_of opening) opening.mask
  pub ends : end_of trigger ≤ window_start layout opening
  pub are_triggers : map (λ sent. sent.frame) (trigger ∷ second) ≡ trigger_frames layout opening
  pub at_once : AreAtOnce (end_of trigger) second
  pub second_ends : All (λ sent. end_of sent ≤ window_start layout opening) second
  pub each : (slot : ℕ) → slot < most_slots → has_bit opening.mask slot ≡ true
      → IsSentOnce sends layout opening later slot
  pub none : (slot : ℕ) → slot < most_slots → has_bit opening.mask slot ≡ false → of_slot slot later ≡ []
  pub all : All (λ sent. IsRequestFrame layout opening sent ⊎ IsSlotFrame layout opening sent) later

-- in each of the opened cycles the frames of the trace are those of the cycle
abbrev pub RunsCycles : (Instance → List ℕ) → CycleLayout → List Opening → List TimedFrame → Type 0
RunsCycles sends layout openings trace =
    All (λ opening. RunsCycle sends layout opening (frames_in layout opening.cycle trace)) openings

-- each flagged slot has an instance that may be sent in the cycle, and together they fit into the largest synchronous
-- window
pub record FitsWindow (layout : CycleLayout) (opening : Opening) : Type 0 where
  pub present : (slot : ℕ) → slot < most_slots → has_bit opening.mask slot ≡ true
      → IsSome (instance_in opening.placed slot opening.cycle)
  pub width : width_of opening ≤ layout.window

-- in an opened cycle these frames follow the CAN trace of the cycles below it, which has ended by the cycle's start
pub record FollowsTrace (sends : Instance → List ℕ) (layout : CycleLayout) (requests : List Request) (openings : List Opening)
    (opening : Opening) (trace frames : List TimedFrame) : Type 0 where
  pub below : All (λ earlier. earlier.cycle < opening.cycle) openings
  pub can_trace : IsCanTrace sends layout requests openings opening.cycle trace
  pub ended : All (λ sent. end_of sent ≤ start_of layout opening) trace
  pub follows : Follows (offered_in sends layout requests opening) trace
      (start_of layout opening) (end_of_cycle layout opening) frames
