-- The nodes of a bus as stations, and with them the master, which offers the trigger frames of a cycle, one after the
-- other, from the cycle's start on.
use Rattle.std.specs.Prelude.{◌≡◌, ◌≢◌, ℕ, ◌<◌, ◌≤◌, ◌==◌, Bool, false, nat_le, if◌then◌else◌, List, [], ◌∷◌, ◌++◌}
use Rattle.std.specs.Prelude.{All, AllPairs, length, Option, None, Some, find, map, filter_map}
use Rattle.std.specs.Option.{option_map_or}
use Rattle.profile.specs.Limits.{cycles_end, most_nodes}
use Rattle.can_frame.specs.DataFrame.{DataFrame}
use Rattle.can_frame.specs.declared.data_frame.TimedFrame.{TimedFrame}
use Rattle.cycle_layout.specs.Layout.{CycleLayout}
use Rattle.trigger_codec.specs.Bytes.{frames_left}
use Rattle.bus_line.specs.Stations.{Line}
use Rattle.node_model.specs.Node.{IsNode, NodeState, NodeView, after_hearing, node_frame, node_offer}
use Rattle.trigger_kind.specs.Kind.{greatest_trigger, opening_identifier}
use Rattle.node_model.specs.Own.{AreApart}
use Rattle.cycle_engine.specs.declared.stations.DueTriggerFrames.{DueTriggerFrames}

-- a trigger frame, and the time from which on it is offered
pub record DueTrigger : Type 0 where
  pub at : ℕ
  pub frame : DataFrame

-- the layout of a bus, the trigger frames that are not yet sent, in their order, and what the nodes know
pub record Stationed : Type 0 where
  pub layout : CycleLayout
  pub triggers : List DueTrigger
  pub nodes : List NodeState

-- the same of one node, with the greatest length of a list that it can learn without memory
pub record StationsView : Type 0 where
  pub layout : CycleLayout
  pub triggers : List DueTrigger
  pub node : NodeView

abbrev pub stationed : StationsView → Stationed
stationed view = record { layout = view.layout; triggers = view.triggers; nodes = view.node.state ∷ [] }

-- trigger frames that are offered from one time on
abbrev pub due_from : ℕ → List DataFrame → List DueTrigger
due_from at frames = map (λ frame. record { at = at; frame = frame }) frames

-- the trigger frames that the stations keep
abbrev pub due_list : Option DueTriggerFrames → List DueTrigger
due_list None = []
due_list (Some due) = due_from due.at (frames_left due.frames)

-- the identifiers that nodes offer at a time, in the order of the nodes
abbrev pub offered_by_nodes : List NodeState → ℕ → List ℕ
offered_by_nodes nodes at = filter_map (λ node. node_offer node at) nodes

-- the identifier of the first of the trigger frames, from its time on
abbrev pub offered_trigger : List DueTrigger → ℕ → List ℕ
offered_trigger [] at = []
offered_trigger (due ∷ later) at = if nat_le due.at at then due.frame.identifier ∷ [] else []

-- the trigger frames that are left behind a frame with an identifier: the first one is taken away where it has that one
abbrev pub triggers_after : ℕ → List DueTrigger → List DueTrigger
triggers_after id [] = []
triggers_after id (due ∷ later) = if due.frame.identifier == id then later else due ∷ later

-- whether this identifier is offered
abbrev pub offers_this : ℕ → Option ℕ → Bool
offers_this id None = false
offers_this id (Some own) = own == id

-- the frame of the first node that offers the identifier at a time
abbrev pub frame_by_nodes : List NodeState → ℕ → ℕ → DataFrame
frame_by_nodes nodes at id =
    option_map_or (λ node. node_frame node at id)
    (find (λ node. offers_this id (node_offer node at)) nodes) (record { identifier = id; bytes = [] })

-- the frame behind an identifier: the first of the trigger frames where it has it, else that of a node
abbrev pub frame_of : Stationed → ℕ → ℕ → DataFrame
frame_of stationed at id = frame_with stationed.triggers
  where
    frame_with : List DueTrigger → DataFrame
    frame_with [] = frame_by_nodes stationed.nodes at id
    frame_with (due ∷ later) =
        if due.frame.identifier == id then due.frame else frame_by_nodes stationed.nodes at id

-- all nodes hear a frame
abbrev pub all_hear : List NodeState → TimedFrame → List NodeState
all_hear nodes sent = map (λ node. after_hearing node sent) nodes

-- the master and the nodes on the bus: a trigger frame that is sent is offered no more, and all nodes hear each frame
abbrev pub cycle_line : Line Stationed
cycle_line = record {
  offered = λ stationed at. offered_trigger stationed.triggers at ++ offered_by_nodes stationed.nodes at;
  framed = frame_of;
  next = λ stationed sent. record {
    layout = stationed.layout;
    triggers = triggers_after sent.frame.identifier stationed.triggers;
    nodes = all_hear stationed.nodes sent;
  };
}

-- what holds of the nodes of a bus: they are at most 30, of one layout and of different numbers, and apart
pub record AreNodes (layout : CycleLayout) (nodes : List NodeState) : Type 0 where
  pub few : length nodes ≤ most_nodes
  pub are : All IsNode nodes
  pub layouts : All (λ node. node.layout ≡ layout) nodes
  pub numbers : AllPairs (λ one other. one.number ≢ other.number) nodes
  pub apart : AllPairs AreApart nodes

-- what holds of trigger frames that are not yet sent: they have identifiers below those of nodes, and none but the last
-- one opens a cycle
pub record AreDueTriggers (layout : CycleLayout) (triggers : List DueTrigger) : Type 0 where
  pub low : All (λ due. due.frame.identifier ≤ greatest_trigger) triggers
  pub last : AllPairs (λ one other. one.frame.identifier ≢ opening_identifier layout.slots) triggers

-- what holds of the stations: the nodes can hear the trigger frames that are not yet sent
pub record AreStations (stations : Stationed) : Type 0 where
  pub nodes : AreNodes stations.layout stations.nodes
  pub triggers : AreDueTriggers stations.layout stations.triggers
  pub next : stations.triggers ≢ [] → All (λ node. node.next < cycles_end) stations.nodes

-- nodes before trigger frames are sent that are offered from a time on
abbrev pub announced : CycleLayout → ℕ → List DataFrame → List NodeState → Stationed
announced layout at frames nodes = record { layout = layout; triggers = due_from at frames; nodes = nodes }
