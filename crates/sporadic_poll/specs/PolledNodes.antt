-- The nodes of a bus whose polled slots carry requests.
use Rattle.std.specs.Prelude.{◌≡◌, ℕ, ◌+◌, ◌*◌, ◌<◌, List, [], ◌++◌, All}
use Rattle.can_frame.specs.declared.data_frame.TimedFrame.{TimedFrame}
use Rattle.requirement_table.specs.declared.entries.Order.{Order}
use Rattle.requirement_table.specs.declared.entries.Placed.{Placed}
use Rattle.requirement_table.specs.Opening.{Opening}
use Rattle.requirement_table.specs.Instance.{bytes_of}
use Rattle.bus_line.specs.Trace.{Follows}
use Rattle.cycle_engine.specs.Joint.{known_by}
use Rattle.cycle_engine.specs.Nodes.{IsBefore, IsBus, NodesView, heard_by, learnt_by, opening_of, states_of}
use Rattle.cycle_engine.specs.Offered.{offered_in}
use Rattle.sporadic_poll.specs.Rides.{Riding}

-- the nodes, what is known of the requests, and the placed entries that the nodes learnt last
pub record PolledView : Type 0 where
  pub nodes : NodesView
  pub riding : Riding
  pub placed : List Placed

-- the next cycle of each node is this one
abbrev pub AreNext : ℕ → PolledView → Type 0
AreNext cycle view = All (λ node. node.next ≡ cycle) (states_of view.nodes.nodes)

-- the cycle that an order opens
abbrev pub opened_by : Order → List Placed → Opening
opened_by order placed = opening_of order (known_by order.learned placed)

-- before the cycle of an order the nodes stand for a bus without requests, on which frames were sent
abbrev pub AreBefore : Order → List TimedFrame → PolledView → Type 0
AreBefore order past view = IsBefore view.nodes.layout [] [] (known_by order.learned view.placed) past order
    (learnt_by order.learned (states_of view.nodes.nodes))

-- the nodes learnt what the order says and heard the frames of its cycle where each instance sends its number: those
-- that follow the frames of the cycles before it. Behind them they stand for the bus before the next cycle
pub record HaveHeard (order : Order) (old new : PolledView) : Type 0 where
  pub plain : List TimedFrame
  pub heard : states_of new.nodes.nodes ≡ heard_by plain (learnt_by order.learned (states_of old.nodes.nodes))
  pub follows : (past : List TimedFrame) → AreBefore order past old
      → Follows (offered_in bytes_of old.nodes.layout [] (opened_by order old.placed)) past
      (order.cycle * old.nodes.layout.cycle) ((order.cycle + 1) * old.nodes.layout.cycle) plain
  pub stand : (past : List TimedFrame) → AreBefore order past old
      → IsBus old.nodes.layout [] [] new.placed (past ++ plain) (order.cycle + 1) (states_of new.nodes.nodes)
  pub soon : (past : List TimedFrame) → AreBefore order past old
      → All (λ sent. sent.start < (order.cycle + 1) * old.nodes.layout.cycle) (past ++ plain)
