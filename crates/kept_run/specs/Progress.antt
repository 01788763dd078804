-- A run between two of its steps.
use Rattle.std.specs.Prelude.{◌≡◌, ℕ, ◌*◌, ◌<◌, ◌≤◌, false, List, All}
use Rattle.can_frame.specs.declared.data_frame.TimedFrame.{TimedFrame}
use Rattle.cycle_layout.specs.Layout.{CycleLayout}
use Rattle.requirement_table.specs.declared.entries.Order.{Order}
use Rattle.requirement_table.specs.declared.entries.Placed.{Placed}
use Rattle.requirement_table.specs.Instance.{bytes_of}
use Rattle.async_window.specs.Online.{WereRequests, arrived_by}
use Rattle.bus_line.specs.Trace.{end_of}
use Rattle.master_core.specs.declared.event.Event.{Event}
use Rattle.master_core.specs.History.{IsLegal, is_changed, next_of, placed_of}
use Rattle.master_core.specs.Openings.{openings_of}
use Rattle.master_core.specs.Orders.{StandsFor}
use Rattle.node_model.specs.Node.{IsNode, NodeState}
use Rattle.cycle_engine.specs.Cycle.{RunsCycles}
use Rattle.cycle_engine.specs.Nodes.{IsBefore, IsBus, IsNumber, NodesView, states_of}
use Rattle.cycle_engine.specs.Offered.{IsCanTrace}
use Rattle.kept_run.specs.Setting.{IsSetting, Setting}

-- the history and the trace of a run so far: the history is legal, the trace is that which arbitration decides in the
-- opened cycles, it has ended by the start of the next cycle, and in each opened cycle it sends what the opening says
pub record IsUnderWay (setting : Setting) (history : List Event) (trace : List TimedFrame) : Type 0 where
  pub legal : IsLegal setting.rules history
  pub can_trace : IsCanTrace setting.sends setting.layout setting.requests (openings_of history) (next_of history) trace
  pub ended : All (λ sent. end_of sent ≤ next_of history * setting.layout.cycle) trace
  pub cycles : RunsCycles setting.sends setting.layout (openings_of history) trace

-- the nodes of a run before its next cycle: they send the number of an instance, there is at least one of each number,
-- they heard the trace, and each knows its entries of a list, which stands for the placed entries where no change was
-- accepted since the last opening
pub record AreNodesReady (setting : Setting) (history : List Event) (trace : List TimedFrame) (nodes : NodesView)
    : Type 0 where
  pub same_layout : nodes.layout ≡ setting.layout
  pub same_bytes : setting.sends ≡ bytes_of
  pub numbers : (number : ℕ) → number < setting.rules.nodes → IsNumber (states_of nodes.nodes) number
  pub known : List Placed
  pub bus : IsBus setting.layout setting.owners setting.requests known trace (next_of history) (states_of nodes.nodes)
  pub up_to_date : is_changed history ≡ false → StandsFor (next_of history) (placed_of history) known

-- nodes that have learnt what an order has for them, before its cycle: each knows its entries of a list that stands for
-- the placed entries
pub record AreBeforeCycle (setting : Setting) (history : List Event) (trace : List TimedFrame) (layout : CycleLayout)
    (order : Order) (nodes : List NodeState) : Type 0 where
  pub known : List Placed
  pub stands : StandsFor (next_of history) (placed_of history) known
  pub before : IsBefore layout setting.owners setting.requests known trace order nodes

-- both before the next cycle: in this setting history and trace are under way, and the nodes are ready
pub record IsOnTheWay (setting : Setting) (history : List Event) (trace : List TimedFrame) (nodes : NodesView)
    : Type 0 where
  pub known : IsSetting setting
  pub under_way : IsUnderWay setting history trace
  pub ready : AreNodesReady setting history trace nodes

-- the same of nodes that take requests while they run and send any bytes: what they know is what the nodes of a run know in
-- which each instance sends its number, and each frame of a request was one of those that had arrived
pub record AreLiveReady (setting : Setting) (history : List Event) (trace : List TimedFrame) (nodes : NodesView)
    : Type 0 where
  pub ready : AreNodesReady (record setting { sends = bytes_of }) history trace nodes
  pub are : All IsNode (states_of nodes.nodes)
  pub were : WereRequests (arrived_by (next_of history * setting.layout.cycle) setting.requests) trace
