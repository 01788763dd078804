-- The nodes of a run: what they know once they have learnt the list of an order and heard a cycle.
use Rattle.std.proofs.Common.{◌≡◌, ℕ, ◌+◌, ◌*◌, ◌^◌, ◌<◌, ◌≤◌, Bool, length, true, false, cond, List, [], ◌∷◌, ◌++◌, map, All, Contains, Option, Some, None, refl, ap, sym, ◌∙◌, subst, arith}
use Rattle.std.specs.Prelude.{IfSome}
use Rattle.std.proofs.lemmas.List.Elements.{All-contains, All-map, All-weaker}
use Rattle.can_frame.specs.declared.data_frame.TimedFrame.{TimedFrame}
use Rattle.cycle_layout.specs.Layout.{CycleLayout}
use Rattle.requirement_table.specs.declared.entries.Order.{Order}
use Rattle.requirement_table.specs.declared.entries.Placed.{Placed}
use Rattle.requirement_table.specs.Instance.{Instance, MaySend, bytes_of}
use Rattle.requirement_table.specs.Table.{IsWellPlaced, instance_in}
use Rattle.requirement_table.proofs.Shared.{instance_in-sound}
use Rattle.planner_policies.specs.Plan.{mask_at}
use Rattle.admission_rules.specs.declared.Rules.{Rules}
use Rattle.master_core.specs.declared.event.Event.{Event}
use Rattle.master_core.specs.declared.event.Event.TheVariants.{Open}
use Rattle.master_core.specs.History.{IsLegal, IsRight, is_changed, is_open, next_of, placed_of, plan_of}
use Rattle.master_core.specs.Orders.{IsOrder, IsOrderFor, IsOrderWith, StandsFor}
use Rattle.master_core.proofs.Shared.{sound-of_legal}
use Rattle.async_window.specs.declared.request.Owner.{Owner}
use Rattle.async_window.specs.declared.request.Request.{Request}
use Rattle.node_model.specs.Node.{NodeState, NodeView, learnt}
use Rattle.node_model.specs.Own.{StandsOnBus}
use Rattle.node_model.proofs.Shared.{instance-of_own}
use Rattle.cycle_engine.specs.Cycle.{FitsWindow}
use Rattle.cycle_engine.specs.Nodes.{CanLearn, FitsOrder, HaveSpare, IsBefore, IsBus, IsNumber, IsOwned, IsSlotKnown, NodesView, heard_by, learnt_by, opening_of, states_of}
use Rattle.cycle_engine.proofs.Shared.{number_kept_all}
use Rattle.kept_run.specs.Progress.{AreBeforeCycle, AreNodesReady, IsUnderWay}
use Rattle.kept_run.specs.Setting.{IsSetting, Setting}
use Rattle.kept_run.proofs.Histories.{next_of-closed, next_of-push, placed_of-push, unchanged-closed}
use Rattle.kept_run.proofs.Lists.{Contains-from_map}
use Rattle.kept_run.proofs.Standing.{stands-now, width-stands}

-- Nodes keep their numbers

abbrev numbers_of : List NodeState → List ℕ
numbers_of nodes = map (λ node. node.number) nodes

numbers-learnt : (placed : List Placed) (nodes : List NodeState) → numbers_of (map (learnt placed) nodes) ≡ numbers_of nodes
numbers-learnt placed [] = refl
numbers-learnt placed (node ∷ nodes) = ap (λ l. node.number ∷ l) (numbers-learnt placed nodes)

pub numbers-learnt_by : (learned : Option (List Placed)) (nodes : List NodeState) → numbers_of (learnt_by learned nodes) ≡ numbers_of nodes
numbers-learnt_by learned nodes = grind (arith, numbers-learnt)

numbers-heard : (frames : List TimedFrame) (nodes : List NodeState) → numbers_of (heard_by frames nodes) ≡ numbers_of nodes
numbers-heard frames [] = refl
numbers-heard frames (node ∷ nodes) =
    ap (λ n. n ∷ numbers_of (heard_by frames nodes)) (number_kept_all frames node) ∙ ap (λ l. node.number ∷ l) (numbers-heard frames nodes)

-- Nodes that learn a list

owned-same : (owners : List Owner) (before after : List NodeState) (request : Request) → numbers_of after ≡ numbers_of before → IsOwned owners before request → IsOwned owners after request
owned-same owners before after request same owned = grind arith

-- the list that nodes know once they have learnt another one, where it changed
abbrev known_then : Bool → List Placed → List Placed → List Placed
known_then changed list known = cond changed list known

-- nodes that learn a list, where it changed, are a bus for what they know then
bus-learnt : (layout : CycleLayout) (owners : List Owner) (requests : List Request) (known list : List Placed) (past : List TimedFrame) (next : ℕ) (nodes : List NodeState) (changed : Bool)
    → IsWellPlaced list → IsBus layout owners requests known past next nodes
    → IsBus layout owners requests (known_then changed list known) past next (learnt_by (cond changed (Some list) None) nodes)
bus-learnt layout owners requests known list past next nodes true well bus =
    let same = numbers-learnt list nodes in
    record {
      well_placed = well;
      are_owners = bus.are_owners;
      stand = All-map (StandsOnBus layout owners requests list past next) (learnt list) nodes
          (grind arith);
      owned = All-weaker (IsOwned owners nodes) (IsOwned owners (map (learnt list) nodes))
          (λ request owned. owned-same owners nodes (map (learnt list) nodes) request same owned) requests bus.owned;
    }
bus-learnt layout owners requests known list past next nodes false well bus = bus

-- and it stands for the placed entries
stands-known : (next : ℕ) (whole list known : List Placed) (changed : Bool) → StandsFor next whole list → (changed ≡ false → StandsFor next whole known)
    → StandsFor next whole (known_then changed list known)
stands-known next whole list known changed stands up_to_date = grind arith

-- The first cycle

pub ready-at_first : (setting : Setting) (nodes : NodesView) → nodes.layout ≡ setting.layout → setting.sends ≡ bytes_of
    → IsBus setting.layout setting.owners setting.requests [] [] 0 (states_of nodes.nodes)
    → ((number : ℕ) → number < setting.rules.nodes → IsNumber (states_of nodes.nodes) number) → AreNodesReady setting [] [] nodes
ready-at_first setting nodes same bytes bus numbers = grind arith

-- A call that opens no cycle

pub ready-answered : (setting : Setting) (trace : List TimedFrame) (nodes : NodesView) (history : List Event) (event : Event) → is_open event ≡ false
    → AreNodesReady setting history trace nodes → AreNodesReady setting (history ++ event ∷ []) trace nodes
ready-answered setting trace nodes history event closed ready = grind (arith, next_of-closed, unchanged-closed)

-- An order

-- nodes know an instance of the slot that stands in their list, where its entry is that of a node
known-instance : (layout : CycleLayout) (owners : List Owner) (requests : List Request) (placed : List Placed) (past : List TimedFrame) (next slot : ℕ) (nodes : List NodeState)
    → IsBus layout owners requests placed past next nodes → (i : Instance) → instance_in placed slot next ≡ Some i → IsNumber nodes i.placed.entry.node → IsSlotKnown nodes next slot
known-instance layout owners requests placed past next slot nodes bus i found is_node =
    let its = Contains-from_map (λ (node : NodeState). node.number) nodes i.placed.entry.node is_node in
    grind (arith, instance-of_own)

-- the entry of an instance stands in the list
few-nodes : (count : ℕ) (placed : List Placed) (slot next : ℕ) (i : Instance) → All (λ p. p.entry.node < count) placed
    → instance_in placed slot next ≡ Some i → i.placed.entry.node < count
few-nodes count placed slot next i of_nodes found =
    let sends = subst (λ x. IfSome x (λ y. Contains placed y.placed × (y.placed.entry.slot ≡ slot) × MaySend y.placed y.number next)) found (instance_in-sound placed slot next) in
    All-contains (λ p. p.entry.node < count) placed i.placed of_nodes sends.0

-- the opening is right after the history
pub order-right : (rules : Rules) (history : List Event) (order : Order) → IsOrderFor rules history order → IsRight rules history (Open order.cycle order.mask)
order-right rules history order its = (its.is.cycle, its.is.mask ∙ ap (λ n. mask_at (plan_of rules (placed_of history)) n) (sym its.is.cycle))

-- what the nodes are to learn is well placed
pub order-learned : (rules : Rules) (history : List Event) (order : Order) → IsOrderFor rules history order → IfSome order.learned IsWellPlaced
order-learned rules history order its = grind arith

-- nodes with room for its list can learn it without memory
can-learn : (placed : List Placed) (changed : Bool) (nodes : List NodeView) → HaveSpare (length placed) nodes
    → CanLearn (cond changed (Some placed) None) nodes
can-learn placed changed nodes have = grind arith

pub order-spare : (rules : Rules) (history : List Event) (nodes : NodesView) (list : List Placed) (order : Order) → HaveSpare (length list) nodes.nodes
    → IsOrderWith rules history list order → CanLearn order.learned nodes.nodes
order-spare rules history nodes list order have is = grind (arith, can-learn)

-- where they learn all placed entries, these stand for themselves
pub order-whole : (rules : Rules) (history : List Event) (order : Order) → IsLegal rules history → IsOrder rules history order → IsOrderFor rules history order
order-whole rules history order legal is = grind (arith, sound-of_legal)

-- its flagged slots have instances to send, and fit the largest window together
pub order-fits : (setting : Setting) (history : List Event) (order : Order) → IsSetting setting → IsOrderFor setting.rules history order
    → FitsWindow setting.layout (opening_of order (placed_of history))
order-fits setting history order known its = grind arith

module _ (setting : Setting) (history : List Event) (trace : List TimedFrame) (nodes : NodesView) (order : Order) where
  abbrev after : List NodeState
  after = learnt_by order.learned (states_of nodes.nodes)

  -- the nodes are before the cycle of the order
  pub order-next : AreNodesReady setting history trace nodes → IsOrderFor setting.rules history order → All (λ node. node.next ≡ order.cycle) (states_of nodes.nodes)
  order-next ready its = grind arith

  -- the window is not above the largest one
  pub order-window : IsSetting setting → AreNodesReady setting history trace nodes → IsOrderFor setting.rules history order → order.l ≤ nodes.layout.window
  order-window known ready its = subst (λ l. order.l ≤ l.window) (sym ready.same_layout) (subst (λ w. order.l ≤ w) known.same_window its.is.fits)

  -- the flagged slots are slots of the layout
  pub order-slots : IsSetting setting → AreNodesReady setting history trace nodes → IsOrderFor setting.rules history order → order.mask < 2 ^ nodes.layout.slots
  order-slots known ready its = subst (λ l. order.mask < 2 ^ l.slots) (sym ready.same_layout) (subst (λ n. order.mask < 2 ^ n) known.same_slots its.is.slots)

  module _ (ready : AreNodesReady setting history trace nodes) (its : IsOrderFor setting.rules history order) where
    -- what they know once they have learnt its list
    abbrev pub now : List Placed
    now = known_then (is_changed history) its.list ready.known

    pub now-stands : StandsFor (next_of history) (placed_of history) now
    now-stands = stands-known (next_of history) (placed_of history) its.list ready.known (is_changed history) its.stands ready.up_to_date

    pub bus-now : IsBus setting.layout setting.owners setting.requests now trace (next_of history) after
    bus-now =
        subst (λ o. IsBus setting.layout setting.owners setting.requests now trace (next_of history) (learnt_by o (states_of nodes.nodes))) (sym its.is.learned)
        (bus-learnt setting.layout setting.owners setting.requests ready.known its.list trace (next_of history) (states_of nodes.nodes) (is_changed history) its.stands.well_placed ready.bus)

    pub fits-now : IsLegal setting.rules history → FitsOrder order.l (record { cycle = next_of history; mask = order.mask; placed = now }) after
    fits-now legal = record {
      width = its.is.window ∙ sym (width-stands (next_of history) order.mask (placed_of history) now now-stands);
      present = λ slot known flagged.
          let found = its.is.present slot known flagged in
          let few = few-nodes setting.rules.nodes (placed_of history) slot (next_of history) found.0 (sound-of_legal setting.rules history legal).nodes found.1 in
          known-instance setting.layout setting.owners setting.requests now trace (next_of history) slot after bus-now found.0
          (stands-now (next_of history) (placed_of history) now now-stands slot ∙ found.1)
          (subst (λ l. Contains l found.0.placed.entry.node) (sym (numbers-learnt_by order.learned (states_of nodes.nodes))) (ready.numbers found.0.placed.entry.node few));
    }

  -- the nodes that have learnt it stand for a bus before the cycle of the order
  pub order-before : IsUnderWay setting history trace → AreNodesReady setting history trace nodes → IsOrderFor setting.rules history order
      → AreBeforeCycle setting history trace nodes.layout order after
  order-before way ready its =
      let cycle = its.is.cycle in
      let known : List Placed = now ready its in
      record {
        known = known;
        stands = now-stands ready its;
        before = subst (λ l. IsBefore l setting.owners setting.requests known trace order after) (sym ready.same_layout)
            (record {
              bus = subst (λ n. IsBus setting.layout setting.owners setting.requests known trace n after) (sym cycle) (bus-now ready its);
              fits = subst (λ n. FitsOrder order.l (record { cycle = n; mask = order.mask; placed = known }) after) (sym cycle) (fits-now ready its way.legal);
              before = subst (λ n. All (λ sent. sent.start < n * setting.layout.cycle) trace) (sym cycle) way.can_trace.within;
            });
      }

  -- a cycle was run
  pub ready-run : AreNodesReady setting history trace nodes → IsOrderFor setting.rules history order
      → (new : NodesView) (frames : List TimedFrame) (known : List Placed) → StandsFor (next_of history) (placed_of history) known
      → new.layout ≡ nodes.layout → states_of new.nodes ≡ heard_by frames after
      → IsBus nodes.layout setting.owners setting.requests known (trace ++ frames) (order.cycle + 1) (states_of new.nodes)
      → AreNodesReady setting (history ++ Open order.cycle order.mask ∷ []) (trace ++ frames) new
  ready-run ready its new frames known stands same heard bus =
      let event = Open order.cycle order.mask in
      let numbers : numbers_of (states_of new.nodes) ≡ numbers_of (states_of nodes.nodes) =
      ap numbers_of heard ∙ numbers-heard frames after ∙ numbers-learnt_by order.learned (states_of nodes.nodes) in
      let next : order.cycle + 1 ≡ next_of (history ++ event ∷ []) = ap (λ n. n + 1) its.is.cycle ∙ sym (next_of-push history event) in
      record {
        same_layout = same ∙ ready.same_layout;
        same_bytes = ready.same_bytes;
        numbers = λ number few. subst (λ l. Contains l number) (sym numbers) (ready.numbers number few);
        known = known;
        bus = subst (λ n. IsBus setting.layout setting.owners setting.requests known (trace ++ frames) n (states_of new.nodes)) next
            (subst (λ l. IsBus l setting.owners setting.requests known (trace ++ frames) (order.cycle + 1) (states_of new.nodes)) ready.same_layout bus);
        up_to_date = grind (arith, next_of-push, placed_of-push);
      }
