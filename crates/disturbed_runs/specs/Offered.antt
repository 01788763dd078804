-- What may start and what is offered in opened cycles on a bus that may be disturbed: as on one without errors, but each
-- synchronous window opens `reserve` bit times earlier. Times and lengths are bit times.
use Rattle.std.specs.Prelude.{◌≡◌, ℕ, ◌+◌, ◌*◌, ◌<◌, ◌≤◌, ◌⊎◌, ◌&&◌, ◌||◌, Bool, false, true, List, Contains, Some, length}
use Rattle.profile.specs.Limits.{first_identifier, least_asynchronous}
use Rattle.can_frame.specs.DataFrame.{DataFrame}
use Rattle.can_frame.specs.declared.data_frame.TimedFrame.{TimedFrame}
use Rattle.cycle_layout.specs.Layout.{CycleLayout, async_open, sync_start}
use Rattle.stuff_bound.specs.Stuffing.{worst}
use Rattle.async_window.specs.declared.request.Request.{Request}
use Rattle.async_window.specs.Waiting.{MayStart, unsent_after}
use Rattle.requirement_table.specs.Instance.{Instance}
use Rattle.requirement_table.specs.Opening.{Opening, width_of}
use Rattle.requirement_table.specs.Table.{width_in}
use Rattle.bit_sets.specs.Sets.{has_bit, most_slots}
use Rattle.trigger_codec.specs.Bytes.{triggers_with}
use Rattle.bus_line.specs.Trace.{Offers}
use Rattle.node_model.specs.Opening.{end_of_cycle, start_of}
use Rattle.disturbed_runs.specs.Outages.{IsDisturbedTrace, Outage}
use Rattle.node_model.specs.Offered.{HasNotStarted, IsUnsent, bytes_sent}

-- the length of the cycle's synchronous window, which its trigger says: its frames' worst lengths, and the reserve
abbrev pub width_with : ℕ → Opening → ℕ
width_with reserve opening = width_of opening + reserve

-- how many bit times late the nodes think that a cycle begins: the least that one of them is late in the cycle, and the
-- most. A node that counts from the trigger that it heard is as late as that was, and one with the time by itself is not
pub record Late : Type 0 where
  pub least : ℕ → ℕ
  pub most : ℕ → ℕ

-- the time at which the cycle's synchronous window opens for a node that is so late in each cycle
abbrev pub window_from : ℕ → (ℕ → ℕ) → CycleLayout → Opening → ℕ
window_from reserve lateness layout opening = sync_start layout opening.cycle (width_with reserve opening) + lateness opening.cycle

-- the time at which it opens for the first of the nodes: what is sent in it lies behind, and asynchronous frames before
abbrev pub first_from : ℕ → Late → CycleLayout → Opening → ℕ
first_from reserve late layout opening = window_from reserve late.least layout opening

-- the trigger frames of the cycle, in the order in which they are sent
abbrev pub triggers_from : ℕ → CycleLayout → Opening → List DataFrame
triggers_from reserve layout opening = triggers_with layout.slots opening.cycle (width_with reserve opening) opening.mask

-- which slots are silent in which cycles: nobody sends them, as their node failed or missed the trigger, or as they are
-- there for the room that they take. And in which cycles nobody sends the trigger, as the master failed or starts again:
-- then all slots are silent
pub record Silent : Type 0 where
  pub triggers : ℕ → Bool
  pub slots : ℕ → ℕ → Bool

abbrev pub is_silent : Silent → ℕ → ℕ → Bool
is_silent silent cycle slot = silent.triggers cycle || silent.slots cycle slot

-- from the cycle's start on, each of its trigger frames is offered that was not sent whole in the cycle, until the
-- asynchronous window opens: the turnaround is the time for trigger frames that are sent again
pub record OffersTriggerAgain (reserve : ℕ) (silent : Silent) (layout : CycleLayout) (opening : Opening) (past : List TimedFrame) (at : ℕ)
    (frame : DataFrame) : Type 0 where
  pub begun : start_of layout opening ≤ at
  pub within : at < async_open layout opening.cycle
  pub loud : silent.triggers opening.cycle ≡ false
  pub among : Contains (triggers_from reserve layout opening) frame
  pub unsent : HasNotStarted layout opening frame.identifier past

-- what the flagged silent slots of a cycle take of its window, and the room of the window for outages
abbrev pub silent_width : Silent → Opening → ℕ
silent_width silent opening = width_in opening.placed opening.cycle (λ slot. has_bit opening.mask slot && is_silent silent opening.cycle slot)

abbrev pub room_for_outages : ℕ → Silent → Opening → ℕ
room_for_outages reserve silent opening = reserve + silent_width silent opening

-- from the window's start on, for a node that is so late, each flagged slot is offered that is not silent and was not sent
-- whole in the cycle
pub record OffersSlotAgain (reserve : ℕ) (lateness : ℕ → ℕ) (silent : Silent) (sends : Instance → List ℕ) (layout : CycleLayout) (opening : Opening)
    (past : List TimedFrame) (at : ℕ) (frame : DataFrame) (slot : ℕ) : Type 0 where
  pub begun : start_of layout opening ≤ at
  pub late_enough : window_from reserve lateness layout opening ≤ at
  pub in_cycle : at < end_of_cycle layout opening
  pub known : slot < most_slots
  pub flagged : has_bit opening.mask slot ≡ true
  pub loud : is_silent silent opening.cycle slot ≡ false
  pub unsent : IsUnsent layout opening slot past
  pub identifier : frame.identifier ≡ first_identifier + slot
  pub bytes : bytes_sent sends opening slot ≡ Some frame.bytes

-- what is offered in an asynchronous window: it has an asynchronous identifier, the asynchronous window is open, and the
-- longest frame of so many bytes ends before the synchronous window
pub record IsGuardedOffer (reserve : ℕ) (late : Late) (layout : CycleLayout) (opening : Opening) (at : ℕ) (frame : DataFrame) : Type 0 where
  pub identifier : least_asynchronous ≤ frame.identifier
  pub opened : async_open layout opening.cycle ≤ at
  pub within : at < end_of_cycle layout opening
  pub whole : at + worst (length frame.bytes) ≤ first_from reserve late layout opening

-- how nodes decide what they offer in the asynchronous window of a cycle, at a time behind the frames that were sent
-- whole. A frame that was cut may be offered again, or never
abbrev pub Asks : Type 0
Asks = Opening → List TimedFrame → ℕ → DataFrame → Bool

-- whatever they decide it by, they keep to the guard
abbrev pub AreGuarded : ℕ → Late → CycleLayout → Asks → Type 0
AreGuarded reserve late layout asks = (opening : Opening) (past : List TimedFrame) (at : ℕ) (frame : DataFrame)
    → asks opening past at frame ≡ true → IsGuardedOffer reserve late layout opening at frame

-- what may start in one opened cycle, and in the opened cycles together
abbrev pub may_start_in : ℕ → Late → Silent → (Instance → List ℕ) → CycleLayout → Asks → Opening → Offers
may_start_in reserve late silent sends layout asks opening past at frame =
    OffersTriggerAgain reserve silent layout opening past at frame
    ⊎ ((asks opening past at frame ≡ true)
    ⊎ ((slot : ℕ) × OffersSlotAgain reserve late.least silent sends layout opening past at frame slot))

abbrev pub may_start : ℕ → Late → Silent → (Instance → List ℕ) → CycleLayout → Asks → List Opening → Offers
may_start reserve late silent sends layout asks openings past at frame =
    (opening : Opening) × Contains openings opening × may_start_in reserve late silent sends layout asks opening past at frame

-- and what is offered in them without fail: the trigger frames, and the slots from the time on from which the last of the
-- nodes has its window open, each as long as its longest frame still ends in time. Nothing need be known of when an
-- asynchronous frame goes
abbrev pub offered_again_in : ℕ → Late → Silent → (Instance → List ℕ) → CycleLayout → Opening → Offers
offered_again_in reserve late silent sends layout opening past at frame =
    (OffersTriggerAgain reserve silent layout opening past at frame
    × (at + worst (length frame.bytes) ≤ async_open layout opening.cycle))
    ⊎ ((slot : ℕ) × OffersSlotAgain reserve late.most silent sends layout opening past at frame slot
    × (at + worst (length frame.bytes) ≤ end_of_cycle layout opening))

abbrev pub offered_again : ℕ → Late → Silent → (Instance → List ℕ) → CycleLayout → List Opening → Offers
offered_again reserve late silent sends layout openings past at frame =
    (opening : Opening) × Contains openings opening × offered_again_in reserve late silent sends layout opening past at frame

-- the trace of `count` cycles on a bus with these outages
abbrev pub IsDisturbedRun : ℕ → Late → Silent → (Instance → List ℕ) → CycleLayout → Asks → List Opening → ℕ → List Outage → List TimedFrame → Type 0
IsDisturbedRun reserve late silent sends layout asks openings count outages trace =
    IsDisturbedTrace (may_start reserve late silent sends layout asks openings) (offered_again reserve late silent sends layout openings)
    outages (count * layout.cycle) trace

-- and they keep so many more bit times free before the synchronous window
abbrev pub AreGuardedBy : ℕ → ℕ → Late → CycleLayout → Asks → Type 0
AreGuardedBy guard reserve late layout asks = (opening : Opening) (past : List TimedFrame) (at : ℕ) (frame : DataFrame)
    → asks opening past at frame ≡ true → at + worst (length frame.bytes) + guard ≤ first_from reserve late layout opening

-- what the nodes of this repository offer, if the trigger's window were `longer` bit times longer than its frames need:
-- the first unsent request of an identifier that has arrived, if its longest frame ends before that window
pub record IsAskedBy (longer : ℕ) (layout : CycleLayout) (requests : List Request) (opening : Opening)
    (past : List TimedFrame) (at : ℕ) (frame : DataFrame) : Type 0 where
  pub request : Request
  pub may_start : MayStart layout opening.cycle (width_with longer opening) (unsent_after requests past frame.identifier) at request
  pub its_frame : frame ≡ request.frame

abbrev pub AreOfRequests : ℕ → CycleLayout → List Request → Asks → Type 0
AreOfRequests longer layout requests asks = (opening : Opening) (past : List TimedFrame) (at : ℕ) (frame : DataFrame)
    → asks opening past at frame ≡ true → IsAskedBy longer layout requests opening past at frame
