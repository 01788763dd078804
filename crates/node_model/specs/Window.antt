-- The synchronous window of the cycle that is open for a node: which slots the node is to send in it, and their frames.
use Rattle.std.specs.Prelude.{◌≡◌, ℕ, ◌+◌, ◌*◌, ◌<◌, ◌≤◌, ◌==◌, ◌||◌}
use Rattle.std.specs.Prelude.{Bool, false, List, [], All, Option, None, Some, if◌then◌else◌}
use Rattle.std.specs.Option.{option_map_or}
use Rattle.std.specs.List.{list_any}
use Rattle.profile.specs.Limits.{first_identifier}
use Rattle.can_frame.specs.DataFrame.{DataFrame}
use Rattle.can_frame.specs.declared.data_frame.TimedFrame.{TimedFrame}
use Rattle.cycle_layout.specs.Layout.{sync_start}
use Rattle.bit_sets.specs.Sets.{has_bit, set_of, most_slots}
use Rattle.requirement_table.specs.Instance.{bytes_of}
use Rattle.requirement_table.specs.Table.{instance_in}
use Rattle.node_model.specs.Node.{NodeState, Opened, is_due}

-- whether the node is to send the slot in the cycle that is open for it
abbrev pub is_due_slot : NodeState → ℕ → Bool
is_due_slot node slot = option_map_or (λ opened. is_due node.entries opened slot) node.opened false

-- the bytes of a slot in the cycle that is open for the node
abbrev pub due_bytes : NodeState → ℕ → List ℕ
due_bytes node slot =
    option_map_or (λ opened. option_map_or bytes_of (instance_in node.entries slot opened.cycle) []) node.opened []

-- the frame of a slot in that cycle
abbrev pub due_frame : NodeState → ℕ → DataFrame
due_frame node slot = record { identifier = first_identifier + slot; bytes = due_bytes node slot }

-- the frame of a slot that the node is to send in that cycle; none of another slot
abbrev pub frame_due : NodeState → ℕ → Option DataFrame
frame_due node slot = if is_due_slot node slot then Some (due_frame node slot) else None

-- an open cycle in which more slots were heard
abbrev pub with_all_heard : ℕ → Opened → Opened
with_all_heard heard opened = record opened {
  heard = set_of most_slots
      (λ slot. has_bit opened.heard slot || has_bit heard slot);
}

-- the times from `from` to below `until` lie in the synchronous window of the cycle that is open for the node, and it ends
-- at `until`
pub record IsInWindow (from until : ℕ) (node : NodeState) : Type 0 where
  pub opened : Opened
  pub is_open : node.opened ≡ Some opened
  pub begun : sync_start node.layout opened.cycle opened.width ≤ from
  pub ends : until ≡ (opened.cycle + 1) * node.layout.cycle

-- all of these frames are frames of slots, and these are their slots
pub record AreOfSlots (sent : ℕ) (frames : List TimedFrame) : Type 0 where
  pub all : All
      (λ one. (first_identifier ≤ one.frame.identifier) × (one.frame.identifier < first_identifier + most_slots)) frames
  pub each : (slot : ℕ)
      → has_bit sent slot ≡ list_any (λ one. one.frame.identifier == first_identifier + slot) frames
