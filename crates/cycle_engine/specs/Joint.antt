-- The nodes of a bus as the parts of one node, the joint node: it owns the identifiers of all of them and knows their
-- entries, and what it hears all of them hear.
use Rattle.std.specs.Prelude.{◌≡◌, ℕ, ◌+◌, ◌<◌, ◌≤◌, ◌&&◌, List, ◌++◌, All, map, Option, None, Some, option_map}
use Rattle.std.specs.List.{range_with_len}
use Rattle.profile.specs.Limits.{first_identifier, most_nodes}
use Rattle.can_frame.specs.declared.data_frame.TimedFrame.{TimedFrame}
use Rattle.cycle_layout.specs.Layout.{CycleLayout}
use Rattle.requirement_table.specs.declared.entries.Order.{Order}
use Rattle.requirement_table.specs.declared.entries.Placed.{Placed}
use Rattle.bit_sets.specs.Sets.{has_bit, set_of, most_slots}
use Rattle.requirement_table.specs.Table.{IsWellPlaced}
use Rattle.trigger_codec.specs.Bytes.{triggers_with}
use Rattle.async_window.specs.declared.request.Owner.{Owner}
use Rattle.async_window.specs.Owners.{AreOwners}
use Rattle.async_window.specs.Sorted.{mail_of}
use Rattle.node_model.specs.Node.{NodeState, NodeView, Opened, entries_of, identifiers_of, is_own_slot, with_node}

-- the joint node has number 0: the entries of a list and the owners as its own
abbrev pub joint_entries : List Placed → List Placed
joint_entries placed = map (with_node 0) placed

abbrev pub joint_owner : Owner → Owner
joint_owner owner = record owner { node = 0 }

abbrev pub joint_owners : List Owner → List Owner
joint_owners owners = map joint_owner owners

-- the identifiers of all owners
abbrev pub identifiers_in : List Owner → List ℕ
identifiers_in owners = map (λ owner. owner.id) owners

-- the open cycle of a node with these entries: of the slots that were heard those that are its own are marked
abbrev pub own_opened : List Placed → Opened → Opened
own_opened entries opened = record opened {
  heard = set_of most_slots (λ slot. has_bit opened.heard slot && is_own_slot entries (first_identifier + slot));
}

-- what one of the nodes knows, of what the joint node knows: its entries of the list, and the mail of its identifiers
abbrev pub part_of : List Owner → List Placed → NodeState → ℕ → NodeState
part_of owners placed joint number = record {
  number = number;
  layout = joint.layout;
  entries = entries_of number placed;
  mail = mail_of (identifiers_of number owners) joint.mail;
  opened = option_map (own_opened (entries_of number placed)) joint.opened;
  next = joint.next;
  frames = joint.frames;
  noted = joint.noted;
}

-- the nodes 0 to `count` - 1, each of which can learn a list of this length
abbrev pub parts_of : List Owner → List Placed → ℕ → ℕ → NodeState → List NodeView
parts_of owners placed spare count joint =
    map (λ number. record { state = part_of owners placed joint number; spare = spare }) (range_with_len 0 count)

-- what holds of the joint node of nodes with these owners that know their entries of a list
pub record IsJoint (owners : List Owner) (placed : List Placed) (count : ℕ) (joint : NodeState) : Type 0 where
  pub some : 1 ≤ count
  pub few : count ≤ most_nodes
  pub number : joint.number ≡ 0
  pub entries : joint.entries ≡ joint_entries placed
  pub mail : joint.mail ≡ mail_of (identifiers_in owners) joint.mail
  pub are_owners : AreOwners owners
  pub numbers : All (λ owner. owner.node < count) owners
  pub well_placed : IsWellPlaced placed

-- the list that is known once another one is learnt, where there is one
abbrev pub known_by : Option (List Placed) → List Placed → List Placed
known_by None placed = placed
known_by (Some learned) placed = learned

-- the frames of the cycle of an order begin with its trigger frames
pub record BeginsWithTriggers (layout : CycleLayout) (order : Order) (frames : List TimedFrame) : Type 0 where
  pub sent : List TimedFrame
  pub later : List TimedFrame
  pub split : frames ≡ sent ++ later
  pub are : map (λ one. one.frame) sent ≡ triggers_with layout.slots order.cycle order.l order.mask
