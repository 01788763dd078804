-- What C hands to a node and is told of it, and what holds of a node behind a handle. Times are bit times from the start of
-- the open cycle.
use Rattle.std.specs.Prelude.{◌≡◌, ◌≢◌, ℕ, ◌+◌, ◌<◌, ◌≤◌, false, not, nat_eq, List, [], All, AllPairs, Option}
use Rattle.std.specs.Prelude.{Some, None, IsSome, length, map, min, option_map, slice_index_or, slice_set}
use Rattle.std.specs.Int.{from_bool}
use Rattle.profile.specs.Limits.{cycles_end, first_identifier, greatest_identifier, least_asynchronous, most_nodes}
use Rattle.bit_sets.specs.Sets.{has_bit, most_slots}
use Rattle.requirement_table.specs.declared.entries.Placed.{Placed}
use Rattle.cycle_layout.specs.Layout.{IsLayout}
use Rattle.async_window.specs.declared.request.Owner.{Owner}
use Rattle.async_window.specs.Owners.{AreOwners}
use Rattle.live_node.specs.declared.due.Due.{Due}
use Rattle.live_node.specs.declared.flight.Loaded.{Loaded}
use Rattle.live_node.specs.declared.flight.Ticket.{Ticket}
use Rattle.live_node.specs.declared.offers.LiveOffer.{LiveOffer}
use Rattle.live_node.specs.declared.trigger.Heard.{Heard}
use Rattle.live_node.specs.declared.trigger.Heard.TheVariants.{Opened, Noted, Again, NotTaken, Other}
use Rattle.live_node.specs.Live.{LiveView, box_of, nothing_waits}
use Rattle.live_node.specs.Sending.{is_owed, live_offer}
use Rattle.live_node.specs.Windows.{IsOffered}
use Rattle.node_model.specs.declared.online.OpenCycle.{OpenCycle}
use Rattle.node_model.specs.Node.{entries_of, fresh_node, identifiers_of}
use Rattle.node_model.specs.Online.{cycle_of, open_now}
use Rattle.node_handle.specs.declared.held.HeldNode.{HeldNode}
use Rattle.c_values.specs.declared.plain.FttLayout.{FttLayout}
use Rattle.c_values.specs.declared.plain.FttTrigger.{FttTrigger}
use Rattle.c_values.specs.declared.refusal.ExportRefusal.{ExportRefusal}
use Rattle.c_values.specs.declared.refusal.ExportRefusal.TheVariants as refused
use Rattle.c_values.specs.Plain.{layout_of, mask_of}
use Rattle.c_values.specs.Told.{frame_told}
use Rattle.fttcan_node_c.specs.declared.plain.FttDue.{FttDue}
use Rattle.fttcan_node_c.specs.declared.plain.FttLoaded.{FttLoaded}
use Rattle.fttcan_node_c.specs.declared.plain.FttOffer.{FttOffer}
use Rattle.fttcan_node_c.specs.declared.plain.FttSettings.{FttSettings}
use Rattle.fttcan_node_c.specs.declared.plain.FttTicket.{FttTicket}

-- a node is held, and of it this holds
pub record Holds (value : Option HeldNode) (property : LiveView → Type 0) : Type 0 where
  pub held : HeldNode
  pub is : value ≡ Some held
  pub known : property held.node

-- What a node is made of

-- the numbers are in range
pub record IsNodeAsked (layout : FttLayout) (settings : FttSettings) (owners : List Owner) : Type 0 where
  pub known : IsLayout (layout_of layout)
  pub number : settings.number < most_nodes
  pub tolerance : settings.tolerance ≤ 127
  pub are_owners : AreOwners owners
  pub nodes : All (λ owner. owner.node < most_nodes) owners

-- an owner has an asynchronous identifier, and a number that a node can have
pub record IsOwnerIn (owner : Owner) : Type 0 where
  pub least : least_asynchronous ≤ owner.id
  pub greatest : owner.id ≤ greatest_identifier
  pub node : owner.node < most_nodes

pub record AreOwnersIn (owners : List Owner) : Type 0 where
  pub each : All IsOwnerIn owners
  pub distinct : AllPairs (λ one other. one.id ≢ other.id) owners

-- a node that was told nothing yet
pub record IsFresh (layout : FttLayout) (settings : FttSettings) (owners : List Owner) (node : LiveView) : Type 0 where
  pub state : node.state ≡ fresh_node (layout_of layout) [] [] settings.number
  pub mail : node.mail ≡ map (nothing_waits settings.room) (identifiers_of settings.number owners)
  pub values : (slot : ℕ) → slice_index_or node.values slot None ≡ None
  pub origins : (slot : ℕ) → slice_index_or node.origins slot None ≡ None
  pub sent : node.sent ≡ 0
  pub loaded : node.loaded ≡ 0
  pub started : node.started ≡ false
  pub tolerance : node.tolerance ≡ min settings.tolerance 127
  pub entries : node.entries ≡ settings.entries
  pub silent : node.silent ≡ not (nat_eq settings.silent 0)

-- why no node is made where nothing is held: a number is out of range; or none is, and there is no memory
abbrev pub RefusesNode : FttLayout → FttSettings → List Owner → ExportRefusal → Type 0
RefusesNode layout settings owners refused.Memory = IsNodeAsked layout settings owners
RefusesNode layout settings owners refused.Argument = IsNodeAsked layout settings owners → ⊥
RefusesNode layout settings owners refused.Table = ⊥
RefusesNode layout settings owners refused.State = ⊥
RefusesNode layout settings owners refused.Room = ⊥
RefusesNode layout settings owners refused.Miss = ⊥
RefusesNode layout settings owners refused.Closed = ⊥
RefusesNode layout settings owners refused.Open = ⊥
RefusesNode layout settings owners refused.Text = ⊥
RefusesNode layout settings owners refused.No = ⊥

-- What a node is told

-- the node's own entries in a list are no more than it was made for
abbrev pub KnowsFew : List Placed → LiveView → Type 0
KnowsFew placed node = length (entries_of node.state.number placed) ≤ node.entries

-- how many requests of an identifier wait; none where it is not the node's own
abbrev pub waiting_under : ℕ → LiveView → Option ℕ
waiting_under id node = option_map (λ box. length box.frames) (box_of node.mail id)

-- the node may go on with a cycle
abbrev pub CanGoTo : ℕ → LiveView → Type 0
CanGoTo cycle node = (node.state.next ≤ cycle) × (cycle ≤ cycles_end)

-- the bus has the slot, and a frame so many bytes
abbrev pub CanSet : ℕ → List ℕ → LiveView → Type 0
CanSet slot bytes node = (slot < node.state.layout.slots) × (length bytes ≤ 8)

-- the identifier of a slot
abbrev pub slot_identifier : ℕ → ℕ
slot_identifier slot = first_identifier + slot

-- a node of which these bytes were set for a slot
abbrev pub with_bytes : ℕ → List ℕ → LiveView → LiveView
with_bytes slot bytes node = record node {
  values = slice_set node.values slot (Some (record { identifier = slot_identifier slot; bytes = bytes }));
}

-- What a node offers

abbrev pub offer_told : LiveOffer → FttOffer
offer_told offer = record { until = offer.until; id = offer.id }

-- C is told what it offers at a time, and up to when
pub record IsOfferTold (into : ℕ) (told : FttOffer) (node : LiveView) : Type 0 where
  pub offer : LiveOffer
  pub offered : IsOffered node into offer
  pub told_is : told ≡ offer_told offer

-- it offers something at a later time
abbrev pub OffersLater : ℕ → LiveView → ℕ → Type 0
OffersLater into node later = (into < later) × IsSome (live_offer node later)

-- What a node owes

-- these are the slots that it owes
abbrev pub AreOwed : ℕ → LiveView → Type 0
AreOwed slots node = (slot : ℕ) → slot < most_slots → has_bit slots slot ≡ is_owed node slot

-- this is the open cycle
pub record IsOpenTold (opened : FttTrigger) (node : LiveView) : Type 0 where
  pub cycle : OpenCycle
  pub open_cycle : option_map cycle_of (open_now node.state) ≡ Some cycle
  pub number : opened.cycle ≡ cycle.cycle
  pub window : opened.window ≡ cycle.width
  pub flags : mask_of opened.flags ≡ cycle.mask

-- Tickets, frames and slots

abbrev pub ticket_of : FttTicket → Ticket
ticket_of ticket = record { id = ticket.id; cycle = ticket.cycle; number = ticket.number }

abbrev pub ticket_told : Ticket → FttTicket
ticket_told ticket = record { cycle = ticket.cycle; number = ticket.number; id = ticket.id }

abbrev pub loaded_told : Loaded → FttLoaded
loaded_told loaded = record {
  ticket = ticket_told loaded.ticket;
  frame = frame_told loaded.frame;
  users = from_bool loaded.users;
}

abbrev pub due_told : Due → FttDue
due_told due = record {
  start = due.start;
  last = due.last;
  loaded = from_bool due.loaded;
  users = from_bool due.users;
}

abbrev pub heard_told : Heard → ℕ
heard_told Opened = 0
heard_told Noted = 1
heard_told Again = 2
heard_told NotTaken = 3
heard_told Other = 4
