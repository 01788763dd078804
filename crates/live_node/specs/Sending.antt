-- What a node in use offers: requests in the asynchronous window of the open cycle, and slots in its synchronous window, each
-- only while its longest frame still ends where it has to. Times are bit times from the start of the cycle.
use Rattle.std.specs.Prelude.{◌≡◌, ℕ, ◌+◌, ◌-◌, ◌<◌, ◌≤◌, ◌==◌, ◌&&◌, ◌||◌, not, Bool, false, true, nat_le, nat_lt, if◌then◌else◌}
use Rattle.std.specs.Prelude.{List, [], ◌∷◌, filter, length, map, slice_get, slice_index_or, Option, Some, None, is_some, option_map}
use Rattle.std.specs.Option.{option_map_or}
use Rattle.profile.specs.Limits.{first_identifier, least_asynchronous}
use Rattle.stuff_bound.specs.Stuffing.{worst}
use Rattle.bit_sets.specs.Least.{least_where}
use Rattle.bit_sets.specs.Sets.{has_bit, most_slots}
use Rattle.can_frame.specs.DataFrame.{DataFrame}
use Rattle.cycle_layout.specs.Layout.{CycleLayout, trigger_part}
use Rattle.async_window.specs.Mailbox.{least_of}
use Rattle.node_model.specs.Node.{Opened}
use Rattle.node_model.specs.Online.{open_now}
use Rattle.node_model.specs.Window.{due_bytes, is_due_slot}
use Rattle.live_node.specs.Live.{LiveView, Waiting, frames_of}
use Rattle.live_node.specs.declared.due.Due.{Due}

-- Bytes

-- bytes were set, and are as many as these
abbrev pub is_as_long : Option DataFrame → List ℕ → Bool
is_as_long None bytes = false
is_as_long (Some set) bytes = length set.bytes == length bytes

-- the bytes that were set, where they are as many as the slot has
abbrev pub set_or : Option DataFrame → List ℕ → List ℕ
set_or None bytes = bytes
set_or (Some set) bytes = if length set.bytes == length bytes then set.bytes else bytes

-- whether the bytes that a slot sends in the open cycle are those that its user set
abbrev pub has_set : LiveView → ℕ → Bool
has_set view slot = is_as_long (slice_index_or view.values slot None) (due_bytes view.state slot)

-- the frame of a slot that the node has to send in the open cycle
abbrev pub slot_frame : LiveView → ℕ → DataFrame
slot_frame view slot = record {
  identifier = first_identifier + slot;
  bytes = set_or (slice_index_or view.values slot None) (due_bytes view.state slot);
}

-- the frame that the node has to send under an identifier: the first request of it, or that of a slot
abbrev pub frame_under : LiveView → ℕ → Option DataFrame
frame_under view id =
    if nat_le least_asynchronous id then slice_get (frames_of view.mail id) 0
    else Some (slot_frame view (id - first_identifier))

-- the identifier is that of a slot that the node has to send in the open cycle
pub record IsDueUnder (view : LiveView) (id : ℕ) : Type 0 where
  pub from : first_identifier ≤ id
  pub below : id < first_identifier + most_slots
  pub due : is_due_slot view.state (id - first_identifier) ≡ true

-- whether its bytes are the user's
abbrev pub are_users : LiveView → ℕ → Bool
are_users view id = nat_le least_asynchronous id || has_set view (id - first_identifier)

-- Slots

-- whether the node owes the slot: its cycle is open, the slot is flagged in it, the node has an instance, and it was not sent
abbrev pub is_owed : LiveView → ℕ → Bool
is_owed view slot =
    is_some (open_now view.state) && (is_due_slot view.state slot && not (has_bit view.sent slot))

-- whether its frame may be loaded: it is not in flight, and has the bytes of its user where the node sends no others
abbrev pub is_ready : LiveView → ℕ → Bool
is_ready view slot =
    is_owed view slot && (not (has_bit view.loaded slot) && (not view.silent || has_set view slot))

-- the longest frame of so many bytes that starts at this time ends by another one
abbrev pub ends_by : ℕ → ℕ → ℕ → Bool
ends_by end bytes into = nat_le (into + worst bytes) end

-- whether it is ready, and its longest frame still ends in the cycle
abbrev pub may_send : LiveView → ℕ → ℕ → Bool
may_send view into slot =
    is_ready view slot && ends_by view.state.layout.cycle (length (due_bytes view.state slot)) into

abbrev pub slot_offer : LiveView → ℕ → Option ℕ
slot_offer view into = option_map (λ slot. first_identifier + slot) (least_where most_slots (may_send view into))

-- Requests

-- the first of these frames may start: the asynchronous window has opened, and its longest form ends before the synchronous
-- window, which has the length l
abbrev pub may_begin : CycleLayout → ℕ → ℕ → List DataFrame → Bool
may_begin layout l into [] = false
may_begin layout l into (frame ∷ later) =
    nat_le (trigger_part layout + layout.turnaround) into && ends_by (layout.cycle - l) (length frame.bytes) into

abbrev pub may_start : CycleLayout → ℕ → ℕ → Waiting → Bool
may_start layout l into box = not box.loaded && may_begin layout l into box.frames

abbrev pub request_offer : CycleLayout → ℕ → ℕ → List Waiting → Option ℕ
request_offer layout l into mail = least_of (map (λ box. box.identifier) (filter (may_start layout l into) mail))

-- Both

abbrev pub offered_in : LiveView → ℕ → Option Opened → Option ℕ
offered_in view into None = None
offered_in view into (Some opened) =
    if nat_le (view.state.layout.cycle - opened.width) into then slot_offer view into
    else request_offer view.state.layout opened.width into view.mail

-- the identifier that the node offers so many bit times behind the start of its cycle: the least one that waits, is not in
-- flight, and still ends where it has to
abbrev pub live_offer : LiveView → ℕ → Option ℕ
live_offer view into = offered_in view into (open_now view.state)

-- What is owed

abbrev pub due_in : LiveView → ℕ → Option Opened → Option Due
due_in view slot None = None
due_in view slot (Some opened) =
    if is_owed view slot
    then Some (record {
      start = view.state.layout.cycle - opened.width;
      last = view.state.layout.cycle - worst (length (due_bytes view.state slot));
      loaded = has_bit view.loaded slot;
      users = has_set view slot;
    })
    else None

-- the frame of a slot that the node owes
abbrev pub owed_frame : LiveView → ℕ → Option DataFrame
owed_frame view slot = if nat_lt slot most_slots && is_owed view slot then Some (slot_frame view slot) else None

-- when a slot that the node owes may start, first and last, and whether its frame is in flight and has its user's bytes
abbrev pub due_of : LiveView → ℕ → Option Due
due_of view slot = if nat_lt slot most_slots then due_in view slot (open_now view.state) else None
