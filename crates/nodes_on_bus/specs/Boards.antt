-- Nodes in processes of their own on a bus that may be disturbed: what a driver knows of the time, and what is loaded into its
-- controller. Times and lengths are bit times.
use Rattle.std.specs.Prelude.{◌≡◌, ℕ, ◌+◌, ◌-◌, ◌<◌, ◌≤◌, List, Some, length, false, true}
use Rattle.profile.specs.Limits.{first_identifier, least_asynchronous}
use Rattle.stuff_bound.specs.Stuffing.{worst}
use Rattle.bit_sets.specs.Sets.{has_bit, most_slots}
use Rattle.can_frame.specs.declared.data_frame.TimedFrame.{TimedFrame}
use Rattle.cycle_layout.specs.Layout.{CycleLayout}
use Rattle.requirement_table.specs.Instance.{Instance}
use Rattle.requirement_table.specs.Opening.{Opening}
use Rattle.node_model.specs.Node.{Opened}
use Rattle.node_model.specs.Online.{open_now}
use Rattle.node_model.specs.Opening.{end_of_cycle, start_of}
use Rattle.node_model.specs.Offered.{bytes_sent}
use Rattle.live_node.specs.Live.{AreWaiting, LiveView}
use Rattle.live_node.specs.Sending.{frame_under, live_offer}
use Rattle.disturbed_runs.specs.Offered.{Late, Silent, is_silent, width_with}

-- a node with its driver: what the node knows when a bit time begins, and how many bit times late the driver thinks that
-- each cycle began
pub record Board : Type 0 where
  pub view : ℕ → LiveView
  pub late : ℕ → ℕ

-- how many bit times of the opened cycle have passed, as the driver counts them
abbrev pub into : CycleLayout → Opening → Board → ℕ → ℕ
into layout opening board at = at - (start_of layout opening + board.late opening.cycle)

-- the layout that nodes are made with: that of the bus, with the reserve in its largest window
abbrev pub with_reserve : ℕ → CycleLayout → CycleLayout
with_reserve reserve layout = record layout { window = layout.window + reserve }

-- the node is in the opened cycle: it has taken the trigger, which says these slots and this window. What it sends itself it
-- does not hear: it is told
pub record IsInCycle (reserve : ℕ) (layout : CycleLayout) (opening : Opening) (view : LiveView) : Type 0 where
  pub opened : Opened
  pub is_open : open_now view.state ≡ Some opened
  pub cycle : opened.cycle ≡ opening.cycle
  pub mask : opened.mask ≡ opening.mask
  pub width : opened.width ≡ width_with reserve opening
  pub unheard : opened.heard ≡ 0
  pub same_layout : view.state.layout ≡ with_reserve reserve layout
  pub waiting : AreWaiting view.mail

-- the driver is no less late than the first one of all, and no later than the last one
pub record IsAsLate (late : Late) (opening : Opening) (board : Board) : Type 0 where
  pub least : late.least opening.cycle ≤ board.late opening.cycle
  pub most : board.late opening.cycle ≤ late.most opening.cycle

-- the frame was loaded when the node offered its identifier for a time up to the frame's start, and it is taken back before
-- the cycle ends. A controller that starts a frame some time after the load may be loaded so much earlier
pub record IsLoadedAt (reserve : ℕ) (late : Late) (layout : CycleLayout) (opening : Opening) (board : Board) (load : ℕ)
    (sent : TimedFrame) : Type 0 where
  pub before : load ≤ sent.start
  pub as_late : IsAsLate late opening board
  pub in_cycle : IsInCycle reserve layout opening (board.view load)
  pub from : ℕ
  pub from_before : from ≤ sent.start
  pub offered : live_offer (board.view load) (into layout opening board from) ≡ Some sent.frame.identifier
  pub in_time : sent.start < end_of_cycle layout opening

-- the frame of a slot: from the load to its start it is in flight, and it carries the bytes of the instance that may be
-- sent in the cycle
pub record IsSlotOf (reserve : ℕ) (late : Late) (silent : Silent) (sends : Instance → List ℕ) (layout : CycleLayout) (opening : Opening)
    (board : Board) (load slot : ℕ) (sent : TimedFrame) : Type 0 where
  pub loaded : IsLoadedAt reserve late layout opening board load sent
  pub known : slot < most_slots
  pub identifier : sent.frame.identifier ≡ first_identifier + slot
  pub loud : is_silent silent opening.cycle slot ≡ false
  pub flying : (at : ℕ) → load < at → at ≤ sent.start → has_bit (board.view at).loaded slot ≡ true
  pub carries : bytes_sent sends opening slot ≡ Some sent.frame.bytes

-- the frame of a request: it is what the node loads, and it is taken back so early that by the count of the first of the
-- drivers, too, its longest form ends before the synchronous window
pub record IsRequestOf (reserve : ℕ) (late : Late) (layout : CycleLayout) (opening : Opening) (board : Board) (load : ℕ)
    (sent : TimedFrame) : Type 0 where
  pub loaded : IsLoadedAt reserve late layout opening board load sent
  pub asynchronous : least_asynchronous ≤ sent.frame.identifier
  pub its_frame : frame_under (board.view load) sent.frame.identifier ≡ Some sent.frame
  pub whole : into layout opening board sent.start + (late.most opening.cycle - late.least opening.cycle)
      + worst (length sent.frame.bytes) ≤ layout.cycle - width_with reserve opening
