-- Frames in flight: loaded into a controller, and told neither as sent nor as withdrawn. A ticket says which one it is.
use Rattle.std.specs.Prelude.{◌≡◌, ℕ, ◌+◌, ◌-◌, ◌≤◌, ◌==◌, ◌&&◌, ◌||◌, not, Bool, false, true, nat_le, nat_lt, if◌then◌else◌}
use Rattle.std.specs.Prelude.{List, drop, is_some, slice_get, Option, Some, None}
use Rattle.std.specs.Option.{option_map_or}
use Rattle.profile.specs.Limits.{first_identifier, least_asynchronous}
use Rattle.bit_sets.specs.Sets.{has_bit, most_slots, set_of}
use Rattle.node_model.specs.Online.{open_now}
use Rattle.live_node.specs.Live.{LiveView, Waiting, box_of, with_box}
use Rattle.live_node.specs.Sending.{are_users, frame_under, live_offer}
use Rattle.live_node.specs.declared.flight.Loaded.{Loaded}
use Rattle.live_node.specs.declared.flight.Ticket.{Ticket}

-- a set of slots with one more, and with one less
abbrev pub with_slot : ℕ → ℕ → ℕ
with_slot slot slots = set_of most_slots (λ s. (s == slot) || has_bit slots s)

abbrev pub without_slot : ℕ → ℕ → ℕ
without_slot slot slots = set_of most_slots (λ s. not (s == slot) && has_bit slots s)

-- the number of the first request of an identifier
abbrev pub first_number : List Waiting → ℕ → ℕ
first_number mail id = option_map_or (λ box. box.first) (box_of mail id) 0

-- the ticket of the frame that the node offers under an identifier: the open cycle, and the number of the request
abbrev pub ticket_of : LiveView → ℕ → Ticket
ticket_of view id = record {
  id = id;
  cycle = option_map_or (λ opened. opened.cycle) (open_now view.state) 0;
  number = if nat_le least_asynchronous id then first_number view.mail id else 0;
}

-- requests whose first one is in flight, or is not
abbrev pub flying : Bool → Waiting → Waiting
flying loaded box = record box { loaded = loaded }

-- requests without the first one
abbrev pub without_first : Waiting → Waiting
without_first box = record box { frames = drop 1 box.frames; first = box.first + 1; loaded = false }

-- a node that has loaded the frame of an identifier
abbrev pub after_load : ℕ → LiveView → LiveView
after_load id view =
    if nat_le least_asynchronous id then record view { mail = with_box id (flying true) view.mail }
    else record view { loaded = with_slot (id - first_identifier) view.loaded }

-- what is loaded, and what is known then
pub record IsLoaded (old : LiveView) (into id : ℕ) (new : LiveView) (loaded : Loaded) : Type 0 where
  pub offered : live_offer old into ≡ Some id
  pub frame : frame_under old id ≡ Some loaded.frame
  pub users : loaded.users ≡ are_users old id
  pub ticket : loaded.ticket ≡ ticket_of old id
  pub after : new ≡ after_load id old

-- the requests are those of which the first one has this number
abbrev pub is_first : ℕ → Waiting → Bool
is_first number box = (box.first == number) && is_some (slice_get box.frames 0)

-- the identifier is that of a slot, and this cycle is open
abbrev pub is_of_slot : LiveView → Ticket → Bool
is_of_slot view ticket =
    (nat_le first_identifier ticket.id && nat_lt ticket.id (first_identifier + most_slots))
    && option_map_or (λ opened. opened.cycle == ticket.cycle) (open_now view.state) false

-- what the ticket is of still counts as not sent: the request is the first one of its identifier, or the slot was not sent
-- in the cycle of the ticket, which is open
abbrev pub is_unsent : LiveView → Ticket → Bool
is_unsent view ticket =
    if nat_le least_asynchronous ticket.id then option_map_or (is_first ticket.number) (box_of view.mail ticket.id) false
    else is_of_slot view ticket && not (has_bit view.sent (ticket.id - first_identifier))

-- a node that was told that it was sent
abbrev pub after_sent : ℕ → LiveView → LiveView
after_sent id view =
    if nat_le least_asynchronous id then record view { mail = with_box id without_first view.mail }
    else record view {
      sent = with_slot (id - first_identifier) view.sent;
      loaded = without_slot (id - first_identifier) view.loaded;
    }

-- what the ticket is of is in flight
abbrev pub is_flying : LiveView → Ticket → Bool
is_flying view ticket =
    if nat_le least_asynchronous ticket.id
    then option_map_or (λ box. is_first ticket.number box && box.loaded) (box_of view.mail ticket.id) false
    else is_of_slot view ticket && has_bit view.loaded (ticket.id - first_identifier)

-- a node that was told that it was not sent and will not be
abbrev pub after_withdrawn : ℕ → LiveView → LiveView
after_withdrawn id view =
    if nat_le least_asynchronous id then record view { mail = with_box id (flying false) view.mail }
    else record view { loaded = without_slot (id - first_identifier) view.loaded }

-- a request waits under the identifier, and the first one is not in flight
abbrev pub can_drop : LiveView → ℕ → Bool
can_drop view id =
    option_map_or (λ box. is_some (slice_get box.frames 0) && not box.loaded) (box_of view.mail id) false

-- a node without that request
abbrev pub after_drop : ℕ → LiveView → LiveView
after_drop id view = record view { mail = with_box id without_first view.mail }
