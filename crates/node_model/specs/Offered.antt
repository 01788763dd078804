-- What is offered on the bus in an opened cycle: its trigger frames, requests in its asynchronous window, and the frames of
-- its flagged slots in its synchronous window. `past` are the frames that started before, on the whole bus.
use Rattle.std.specs.Prelude.{◌≡◌, ℕ, ◌+◌, ◌<◌, ◌≤◌, true, List, All, Contains, Option, Some, option_map}
use Rattle.profile.specs.Limits.{first_identifier}
use Rattle.can_frame.specs.DataFrame.{DataFrame}
use Rattle.can_frame.specs.declared.data_frame.TimedFrame.{TimedFrame}
use Rattle.cycle_layout.specs.Layout.{CycleLayout, trigger_part}
use Rattle.requirement_table.specs.Instance.{Instance}
use Rattle.bit_sets.specs.Sets.{has_bit, most_slots}
use Rattle.requirement_table.specs.Table.{instance_in}
use Rattle.trigger_codec.specs.Bytes.{triggers_with}
use Rattle.async_window.specs.declared.request.Request.{Request}
use Rattle.async_window.specs.Waiting.{unsent_after, MayStart}
use Rattle.requirement_table.specs.Opening.{Opening, width_of}
use Rattle.node_model.specs.Opening.{start_of, end_of_cycle, window_start}

-- no frame of the identifier started in the cycle, among the frames before
abbrev pub HasNotStarted : CycleLayout → Opening → ℕ → List TimedFrame → Type 0
HasNotStarted layout opening id past =
    All (λ sent. sent.frame.identifier ≡ id → sent.start < start_of layout opening) past

-- the trigger frames of the cycle, in the order in which they are sent
abbrev pub trigger_frames : CycleLayout → Opening → List DataFrame
trigger_frames layout opening = triggers_with layout.slots opening.cycle (width_of opening) opening.mask

-- from the cycle's start on, within the trigger part, each of its trigger frames is offered that has not started in the
-- cycle
pub record OffersTrigger (layout : CycleLayout) (opening : Opening) (past : List TimedFrame) (at : ℕ)
    (frame : DataFrame) : Type 0 where
  pub begun : start_of layout opening ≤ at
  pub within : at < start_of layout opening + trigger_part layout
  pub among : Contains (trigger_frames layout opening) frame
  pub unsent : HasNotStarted layout opening frame.identifier past

-- in the asynchronous window the first unsent request of an identifier is offered that has arrived, where its longest
-- frame ends before the synchronous window
pub record OffersRequest (layout : CycleLayout) (requests : List Request) (opening : Opening)
    (past : List TimedFrame) (at : ℕ) (frame : DataFrame) : Type 0 where
  pub request : Request
  pub may_start : MayStart layout opening.cycle (width_of opening)
      (unsent_after requests past frame.identifier) at request
  pub its_frame : frame ≡ request.frame

-- no frame of the slot started in the cycle, among the frames before
abbrev pub IsUnsent : CycleLayout → Opening → ℕ → List TimedFrame → Type 0
IsUnsent layout opening slot past = HasNotStarted layout opening (first_identifier + slot) past

-- the bytes that the slot sends in the cycle, where an instance sends these: those of the instance that may be sent in it
abbrev pub bytes_sent : (Instance → List ℕ) → Opening → ℕ → Option (List ℕ)
bytes_sent sends opening slot = option_map sends (instance_in opening.placed slot opening.cycle)

-- in the cycle, from the synchronous window's start on, which lies behind the trigger part where the window is at most
-- the largest one, each flagged slot is offered that has not been sent in the cycle: with its identifier, and the bytes
-- that the instance sends which may be sent in the cycle
pub record OffersSlot (sends : Instance → List ℕ) (layout : CycleLayout) (opening : Opening) (past : List TimedFrame)
    (at : ℕ) (frame : DataFrame) (slot : ℕ) : Type 0 where
  pub begun : start_of layout opening ≤ at
  pub late_enough : window_start layout opening ≤ at
  pub within : at < end_of_cycle layout opening
  pub known : slot < most_slots
  pub flagged : has_bit opening.mask slot ≡ true
  pub unsent : IsUnsent layout opening slot past
  pub identifier : frame.identifier ≡ first_identifier + slot
  pub bytes : bytes_sent sends opening slot ≡ Some frame.bytes
