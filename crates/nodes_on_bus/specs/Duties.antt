-- What the drivers of a bus owe, so that what is proved of disturbed runs holds for nodes in processes of their own. Times and
-- lengths are bit times.
use Rattle.std.specs.Prelude.{◌≡◌, ℕ, ◌+◌, ◌<◌, ◌≤◌, ◌⊎◌, ◌&&◌, ◌||◌, false, true, nat_le, nat_lt, IsSome}
use Rattle.std.specs.Prelude.{List, All, Any, Contains, Some, length}
use Rattle.stuff_bound.specs.Stuffing.{worst}
use Rattle.profile.specs.Limits.{first_identifier, least_asynchronous}
use Rattle.bit_sets.specs.Sets.{has_bit, most_slots}
use Rattle.can_frame.specs.DataFrame.{DataFrame}
use Rattle.can_frame.specs.declared.data_frame.TimedFrame.{TimedFrame}
use Rattle.cycle_layout.specs.Layout.{CycleLayout, async_open}
use Rattle.requirement_table.specs.Instance.{Instance}
use Rattle.requirement_table.specs.Opening.{Opening}
use Rattle.requirement_table.specs.Table.{instance_in}
use Rattle.bus_line.specs.Trace.{IsOrdered, end_of, started_before}
use Rattle.cycle_engine.specs.Cycle.{cycle_of}
use Rattle.node_model.specs.Opening.{end_of_cycle, start_of}
use Rattle.node_model.specs.Offered.{bytes_sent}
use Rattle.live_node.specs.Sending.{is_owed}
use Rattle.disturbed_runs.specs.Outages.{Outage, end_of_outage}
use Rattle.disturbed_runs.specs.Offered.{Asks, Late, OffersTriggerAgain, Silent, first_from, is_silent, width_with, window_from}
use Rattle.nodes_on_bus.specs.Boards.{Board, IsAsLate, IsInCycle, IsRequestOf, IsSlotOf}

-- who has a slot in a cycle: its node's board
abbrev pub Senders : Type 0
Senders = ℕ → ℕ → Board

-- when the frame was loaded that is sent here
abbrev pub Loads : Type 0
Loads = TimedFrame → ℕ

-- a frame is on the wire at the time, or the bus is lost
abbrev pub IsBusy : List Outage → List TimedFrame → ℕ → Type 0
IsBusy outages trace at =
    Any (λ sent. (sent.start ≤ at) × (at < end_of sent)) trace
    ⊎ Any (λ outage. (outage.start ≤ at) × (at < end_of_outage outage)) outages

-- what is sent is a trigger frame of the cycle, or what a board has loaded: a request, or the frame of one of its slots
abbrev pub IsOfCycle : ℕ → Late → Silent → (Instance → List ℕ) → CycleLayout → Senders → Loads → List TimedFrame → TimedFrame → Opening → Type 0
IsOfCycle reserve late silent sends layout senders loads trace sent opening =
    OffersTriggerAgain reserve silent layout opening (started_before sent.start trace) sent.start sent.frame
    ⊎ (((board : Board) × IsRequestOf reserve late layout opening board (loads sent) sent)
    ⊎ ((slot : ℕ) × IsSlotOf reserve late silent sends layout opening (senders opening.cycle slot) (loads sent) slot sent))

-- a frame of the slot has started in the opened cycle before the time
pub record HasStarted (layout : CycleLayout) (opening : Opening) (slot : ℕ) (trace : List TimedFrame) (at : ℕ) : Type 0 where
  pub sent : TimedFrame
  pub among : Contains trace sent
  pub identifier : sent.frame.identifier ≡ first_identifier + slot
  pub from : start_of layout opening ≤ sent.start
  pub before : sent.start < at

-- the drivers and controllers of a bus do what they owe: all frames are the master's, or were loaded when a node offered
-- them; what is loaded once is sent whole once at most; nodes are told what was sent, and nothing else; a slot that is not
-- silent has a node that is in the cycle when the window of the last one opens; and a time at which such a slot is owed in its
-- window and has not started, or a trigger frame in its part, lies within a frame or is lost, as long as its longest frame
-- would still end in time
pub record AreDriven (reserve : ℕ) (late : Late) (silent : Silent) (sends : Instance → List ℕ) (layout : CycleLayout)
    (openings : List Opening) (senders : Senders) (loads : Loads) (outages : List Outage) (until : ℕ) (trace : List TimedFrame) : Type 0 where
  pub ordered : IsOrdered trace
  pub within : All (λ sent. sent.start < until) trace
  pub each : (sent : TimedFrame) → Contains trace sent → (opening : Opening) × Contains openings opening
      × IsOfCycle reserve late silent sends layout senders loads trace sent opening
  pub once : (one other : TimedFrame) → Contains trace one → Contains trace other
      → one.frame.identifier ≡ other.frame.identifier → cycle_of layout one ≡ cycle_of layout other
      → loads one ≡ loads other → one.start ≡ other.start
  pub told : (opening : Opening) (slot at : ℕ) → Contains openings opening → slot < most_slots
      → HasStarted layout opening slot trace at → at < end_of_cycle layout opening
      → (has_bit ((senders opening.cycle slot).view at).sent slot
      || has_bit ((senders opening.cycle slot).view at).loaded slot) ≡ true
  pub told_truly : (opening : Opening) (slot at : ℕ) → Contains openings opening → slot < most_slots
      → IsInCycle reserve layout opening ((senders opening.cycle slot).view at)
      → has_bit ((senders opening.cycle slot).view at).sent slot ≡ true → HasStarted layout opening slot trace at
  pub attended : (opening : Opening) (slot at : ℕ) → Contains openings opening → slot < most_slots
      → has_bit opening.mask slot ≡ true → is_silent silent opening.cycle slot ≡ false
      → window_from reserve late.most layout opening ≤ at → at < end_of_cycle layout opening
      → IsInCycle reserve layout opening ((senders opening.cycle slot).view at)
      × IsSome (instance_in ((senders opening.cycle slot).view at).state.entries slot opening.cycle)
  pub busy_slots : (opening : Opening) (slot at : ℕ) (bytes : List ℕ) → Contains openings opening → slot < most_slots
      → window_from reserve late.most layout opening ≤ at
      → bytes_sent sends opening slot ≡ Some bytes → at + worst (length bytes) ≤ end_of_cycle layout opening
      → is_silent silent opening.cycle slot ≡ false → (HasStarted layout opening slot trace at → ⊥)
      → IsInCycle reserve layout opening ((senders opening.cycle slot).view at)
      → is_owed ((senders opening.cycle slot).view at) slot ≡ true → IsBusy outages trace at
  pub busy_triggers : (opening : Opening) (at : ℕ) (frame : DataFrame) → Contains openings opening → at < until
      → OffersTriggerAgain reserve silent layout opening (started_before at trace) at frame
      → at + worst (length frame.bytes) ≤ async_open layout opening.cycle → IsBusy outages trace at

-- each synchronous window leaves something of its cycle
abbrev pub LeaveRoom : ℕ → CycleLayout → List Opening → Type 0
LeaveRoom reserve layout openings = (opening : Opening) → Contains openings opening → width_with reserve opening < layout.cycle

-- what is asked for on the asynchronous side: whatever keeps the guard
abbrev pub keeps_guard : ℕ → Late → CycleLayout → Asks
keeps_guard reserve late layout opening past at frame =
    (nat_le least_asynchronous frame.identifier && nat_le (async_open layout opening.cycle) at)
    && (nat_lt at (end_of_cycle layout opening)
    && nat_le (at + worst (length frame.bytes)) (first_from reserve late layout opening))
