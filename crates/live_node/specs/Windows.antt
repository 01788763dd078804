-- The windows of the open cycle, in which all lies that a node in use offers. Times are bit times from the start of the
-- cycle.
use Rattle.std.specs.Prelude.{◌≡◌, ℕ, ◌+◌, ◌-◌, ◌<◌, ◌≤◌, ◌⊎◌, true, false, length, slice_get, Some}
use Rattle.profile.specs.Limits.{first_identifier}
use Rattle.stuff_bound.specs.Stuffing.{worst}
use Rattle.bit_sets.specs.Sets.{most_slots}
use Rattle.can_frame.specs.DataFrame.{DataFrame}
use Rattle.cycle_layout.specs.Layout.{trigger_part}
use Rattle.node_model.specs.Node.{Opened}
use Rattle.node_model.specs.Online.{open_now}
use Rattle.node_model.specs.Window.{due_bytes}
use Rattle.live_node.specs.Live.{LiveView, Waiting, box_of, frames_of}
use Rattle.live_node.specs.Sending.{is_ready, live_offer}
use Rattle.live_node.specs.declared.offers.LiveOffer.{LiveOffer}

-- a request is offered: it is the first one of the identifier and not in flight, the asynchronous window has opened, and the
-- longest form of its frame ends before the synchronous window
pub record OffersRequest (view : LiveView) (into id : ℕ) : Type 0 where
  pub opened : Opened
  pub is_open : open_now view.state ≡ Some opened
  pub box : Waiting
  pub here : box_of view.mail id ≡ Some box
  pub free : box.loaded ≡ false
  pub frame : DataFrame
  pub first : slice_get box.frames 0 ≡ Some frame
  pub begun : trigger_part view.state.layout + view.state.layout.turnaround ≤ into
  pub whole : into + worst (length frame.bytes) ≤ view.state.layout.cycle - opened.width

-- a slot is offered: it is flagged, the node has an instance, it was not sent and is not in flight, the synchronous window
-- has begun, and the longest form of its frame ends in the cycle
pub record OffersSlot (view : LiveView) (into id slot : ℕ) : Type 0 where
  pub opened : Opened
  pub is_open : open_now view.state ≡ Some opened
  pub identifier : id ≡ first_identifier + slot
  pub known : slot < most_slots
  pub ready : is_ready view slot ≡ true
  pub begun : view.state.layout.cycle - opened.width ≤ into
  pub whole : into + worst (length (due_bytes view.state slot)) ≤ view.state.layout.cycle

-- what is offered at a time is offered up to another one, and not afterwards
pub record IsOffered (view : LiveView) (into : ℕ) (offer : LiveOffer) : Type 0 where
  pub offered : live_offer view into ≡ Some offer.id
  pub from : into ≤ offer.until
  pub stays : (later : ℕ) → into ≤ later → later ≤ offer.until → live_offer view later ≡ Some offer.id
  pub last : (later : ℕ) → offer.until < later → live_offer view later ≡ Some offer.id → ⊥

-- the first request of the identifier, which starts at this time, reaches at most `off` bit times out of the asynchronous
-- window
pub record ReachesRequest (view : LiveView) (opened : Opened) (id start off : ℕ) : Type 0 where
  pub frame : DataFrame
  pub first : slice_get (frames_of view.mail id) 0 ≡ Some frame
  pub begun : trigger_part view.state.layout + view.state.layout.turnaround ≤ start + off
  pub whole : start + worst (length frame.bytes) ≤ view.state.layout.cycle - opened.width + off

-- the frame of a slot that starts at this time reaches at most so far out of the synchronous window
pub record ReachesSlot (view : LiveView) (opened : Opened) (id start off : ℕ) : Type 0 where
  pub slot : ℕ
  pub identifier : id ≡ first_identifier + slot
  pub ready : is_ready view slot ≡ true
  pub begun : view.state.layout.cycle - opened.width ≤ start + off
  pub whole : start + worst (length (due_bytes view.state slot)) ≤ view.state.layout.cycle + off

-- the same of what is offered under an identifier
pub record Reaches (view : LiveView) (id start off : ℕ) : Type 0 where
  pub opened : Opened
  pub is_open : open_now view.state ≡ Some opened
  pub reaches : ReachesRequest view opened id start off ⊎ ReachesSlot view opened id start off
