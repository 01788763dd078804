-- A synchronous window: the nodes are asked once for the frames that they are to send in it, and these leave in the
-- order of their slots.
use Rattle.std.specs.Prelude.{◌≡◌, ℕ, ◌+◌, ◌*◌, ◌<◌, ◌≤◌, nat_lt, if◌then◌else◌, List, [], ◌∷◌, ◌++◌}
use Rattle.std.specs.Prelude.{◌==◌, All, Bool, filter_map, length, Option, None, Some}
use Rattle.std.specs.List.{list_any, range_with_len}
use Rattle.profile.specs.Limits.{first_identifier, shortest_frame}
use Rattle.can_frame.specs.DataFrame.{DataFrame}
use Rattle.can_frame.specs.Wire.{wire_length}
use Rattle.can_frame.specs.declared.data_frame.TimedFrame.{TimedFrame}
use Rattle.cycle_layout.specs.Layout.{CycleLayout}
use Rattle.bit_sets.specs.Sets.{has_bit, most_slots}
use Rattle.bus_line.specs.Trace.{Follows}
use Rattle.bus_line.specs.Stations.{offers_of}
use Rattle.node_model.specs.Node.{NodeState}
use Rattle.trigger_kind.specs.Kind.{greatest_trigger}
use Rattle.trigger_codec.specs.Bytes.{triggers_with}
use Rattle.node_model.specs.Window.{IsInWindow, due_frame, is_due_slot}
use Rattle.cycle_engine.specs.Nodes.{heard_by}
use Rattle.cycle_engine.specs.Stations.{Stationed, announced, cycle_line}

-- the frame of the first of these nodes that is to send the slot in the cycle that is open for it; none where no node
-- is
abbrev pub due_by : List NodeState → ℕ → Option DataFrame
due_by [] slot = None
due_by (node ∷ later) slot = if is_due_slot node slot then Some (due_frame node slot) else due_by later slot

-- what a function gives of the slots, in their order
unfoldable pub by_slots : (ℕ → Option DataFrame) → List DataFrame
by_slots given = filter_map given (range_with_len 0 most_slots)

-- the frames that nodes are to send, in the order of their slots
abbrev pub due_frames : List NodeState → List DataFrame
due_frames nodes = by_slots (due_by nodes)

-- the same of the slots of a set alone
abbrev pub due_among : List NodeState → ℕ → ℕ → Option DataFrame
due_among nodes set slot = if has_bit set slot then due_by nodes slot else None

-- a frame that is sent whole from a time on
abbrev pub sent_at : ℕ → DataFrame → TimedFrame
sent_at at frame = record { start = at; len = wire_length frame; frame = frame }

-- frames one right behind the other from a time on, as many of them as start before `until`
abbrev pub back_to_back : List DataFrame → ℕ → ℕ → List TimedFrame
back_to_back [] at until = []
back_to_back (frame ∷ later) at until =
    if nat_lt at until then sent_at at frame ∷ back_to_back later (at + wire_length frame) until else []

-- whether one of the frames is that of the slot
abbrev pub is_among : ℕ → List TimedFrame → Bool
is_among slot frames = list_any (λ one. one.frame.identifier == first_identifier + slot) frames

-- the nodes without trigger frames
abbrev pub nodes_alone : CycleLayout → List NodeState → Stationed
nodes_alone layout nodes = record { layout = layout; triggers = []; nodes = nodes }

-- what arbitration decides between the nodes from one time to another was put behind `old`, and the nodes heard it
pub record IsSentBy (before after : List NodeState) (from until : ℕ) (old new : List TimedFrame) : Type 0 where
  pub frames : List TimedFrame
  pub appended : new ≡ old ++ frames
  pub heard : after ≡ heard_by frames before
  pub no_trigger : All (λ sent. greatest_trigger < sent.frame.identifier) frames
  pub follows : (layout : CycleLayout) → Follows (offers_of cycle_line (nodes_alone layout before)) [] from until frames

-- a cycle has run up to its synchronous window: these frames were sent and heard, from the time `from` on the nodes are
-- in the window, and what arbitration decides in it makes the frames those of the cycle
pub record IsBeforeWindow (layout : CycleLayout) (cycle l mask : ℕ) (before after : List NodeState)
    (frames : List TimedFrame) (from : ℕ) : Type 0 where
  pub in_window : All (IsInWindow from ((cycle + 1) * layout.cycle)) after
  pub few : cycle * layout.cycle + shortest_frame * length frames ≤ from
  pub heard : after ≡ heard_by frames before
  pub whole : (later : List TimedFrame)
      → Follows (offers_of cycle_line (nodes_alone layout after)) [] from ((cycle + 1) * layout.cycle) later
      → Follows (offers_of cycle_line (announced layout (cycle * layout.cycle) (triggers_with layout.slots cycle l mask) before))
      [] (cycle * layout.cycle) ((cycle + 1) * layout.cycle) (frames ++ later)
