-- A cycle of a bus whose nodes take requests while they run.
use Rattle.std.proofs.Common.{ℕ, false, refl, ◌∙◌, ap, arith, Option, None, Some, ◌≡◌, ◌+◌, ◌*◌, ◌^◌, ◌<◌, ◌≤◌, List, [], ◌∷◌, ◌++◌, All, sym, subst}
use Rattle.std.specs.Prelude.{IfSome}
use Rattle.std.proofs.Math.Nat.{add-mul}
use Rattle.std.proofs.lemmas.List.Elements.{All-cons, All-head, All-map, All-tail, All-weaker}
use Rattle.requirement_table.specs.declared.entries.Placed.{Placed}
use Rattle.requirement_table.specs.Instance.{bytes_of}
use Rattle.requirement_table.specs.Table.{IsWellPlaced}
use Rattle.can_frame.specs.declared.data_frame.TimedFrame.{TimedFrame}
use Rattle.requirement_table.specs.declared.entries.Order.{Order}
use Rattle.async_window.specs.Online.{WereRequests, arrived_by}
use Rattle.async_window.proofs.Shared.{InOrder, were-later}
use Rattle.bus_line.specs.Trace.{Follows, end_of, free_after}
use Rattle.node_model.specs.Node.{IsNode, NodeState, learnt}
use Rattle.node_model.proofs.Shared.{node-learning}
use Rattle.master_core.specs.declared.event.Event.{Event}
use Rattle.master_core.specs.declared.event.Event.TheVariants.{Open}
use Rattle.master_core.specs.History.{is_open, next_of, placed_of}
use Rattle.master_core.specs.Orders.{IsOrderFor, StandsFor}
use Rattle.cycle_engine.specs.LiveBus.{IsTriggered, live_offers}
use Rattle.cycle_engine.specs.Nodes.{FitsOrder, IsBus, IsNumber, NodesView, heard_by, learnt_by, opening_of, states_of}
use Rattle.cycle_engine.specs.Offered.{SendsWhole}
use Rattle.cycle_engine.proofs.Shared.{free_after-ended, live-bus, live-nodes, live-order, live-were}
use Rattle.kept_run.specs.Progress.{AreBeforeCycle, AreLiveReady, AreNodesReady, IsUnderWay}
use Rattle.kept_run.specs.Setting.{IsSetting, Setting}
use Rattle.kept_run.proofs.Histories.{legal-push, next_of-closed, next_of-push}
use Rattle.kept_run.proofs.Ready.{bus-now, fits-now, now, now-stands, order-learned, order-right, ready-answered, ready-at_first, ready-run}
use Rattle.kept_run.proofs.Standing.{same-offers}
use Rattle.kept_run.proofs.Steps.{opened}

pub live-run : (setting : Setting) (history : List Event) (trace : List TimedFrame) (order : Order)
    (nodes : List NodeState) (sent later : List TimedFrame)
    → IsSetting setting → SendsWhole setting.sends → InOrder setting.requests
    → IsUnderWay setting history trace → IsOrderFor setting.rules history order
    → All IsNode nodes → (before : AreBeforeCycle setting history trace setting.layout order nodes)
    → IsTriggered setting.layout order nodes sent
    → WereRequests (arrived_by (order.cycle * setting.layout.cycle) setting.requests) trace
    → Follows (live_offers setting.sends setting.owners setting.requests (opening_of order before.known)
    (trace ++ sent) (heard_by sent nodes)) (trace ++ sent)
    (free_after (order.cycle * setting.layout.cycle) sent) ((order.cycle + 1) * setting.layout.cycle) later
    → order.cycle < 2 ^ 42
    → IsUnderWay setting (history ++ Open order.cycle order.mask ∷ []) (trace ++ (sent ++ later))
live-run setting history trace order nodes sent later known whole sorted way is are before triggered were follows cycle =
    let width : order.l ≤ setting.layout.window = subst (λ w. order.l ≤ w) known.same_window is.is.fits in
    let mask : order.mask < 2 ^ setting.layout.slots = subst (λ n. order.mask < 2 ^ n) known.same_slots is.is.slots in
    let of_list = live-order setting.sends setting.layout setting.owners setting.requests before.known trace order nodes sent later
    known.known sorted are before.before cycle width mask triggered were follows in
    let stands : StandsFor order.cycle (placed_of history) before.known
    = subst (λ c. StandsFor c (placed_of history) before.known) (sym is.is.cycle) before.stands in
    opened setting history order.cycle order.mask known
    (legal-push setting.rules history (Open order.cycle order.mask) way.legal (order-right setting.rules history order is)) whole trace (sent ++ later) way
    (same-offers setting.sends setting.layout setting.requests order.cycle order.mask (placed_of history) before.known trace (sent ++ later)
    (order.cycle * setting.layout.cycle) ((order.cycle + 1) * setting.layout.cycle) stands of_list)

-- the nodes before the cycle of an order
module _ (setting : Setting) (history : List Event) (trace : List TimedFrame) (nodes : NodesView) (order : Order)
    (way : IsUnderWay setting history trace) (live : AreLiveReady setting history trace nodes) (is : IsOrderFor setting.rules history order) where
  abbrev plain : Setting
  plain = record setting { sends = bytes_of }

  abbrev after : List NodeState
  after = learnt_by order.learned (states_of nodes.nodes)

  pub live-before : AreBeforeCycle setting history trace setting.layout order (learnt_by order.learned (states_of nodes.nodes))
  live-before =
      let cycle = is.is.cycle in
      let known : List Placed = now plain history trace nodes order live.ready is in
      record {
        known = known;
        stands = now-stands plain history trace nodes order live.ready is;
        before = record {
          bus = subst (λ n. IsBus setting.layout setting.owners setting.requests known trace n after) (sym cycle) (bus-now plain history trace nodes order live.ready is);
          fits = subst (λ n. FitsOrder order.l (record { cycle = n; mask = order.mask; placed = known }) after) (sym cycle)
              (fits-now plain history trace nodes order live.ready is way.legal);
          before = subst (λ n. All (λ sent. sent.start < n * setting.layout.cycle) trace) (sym cycle) way.can_trace.within;
        };
      }

  pub live-learnt : All IsNode (learnt_by order.learned (states_of nodes.nodes))
  live-learnt = by_learned order.learned (order-learned setting.rules history order is)
    where
      by_learned : (learned : Option (List Placed)) → IfSome learned IsWellPlaced → All IsNode (learnt_by learned (states_of nodes.nodes))
      by_learned None well = live.are
      by_learned (Some placed) well =
          All-map IsNode (learnt placed) (states_of nodes.nodes)
          (All-weaker IsNode (λ node. IsNode (learnt placed node)) (λ node known. node-learning placed node well known) (states_of nodes.nodes) live.are)

-- and behind it
all-behind : (P : TimedFrame → Type 0) (front back : List TimedFrame) → All P (front ++ back) → All P back
all-behind P [] back all = all
all-behind P (one ∷ front) back all = all-behind P front back (All-tail P one (front ++ back) all)

all-front : (P : TimedFrame → Type 0) (front back : List TimedFrame) → All P (front ++ back) → All P front
all-front P [] back all = λ k d within. absurd (omega arith)
all-front P (one ∷ front) back all = All-cons P one front (All-head P one (front ++ back) all) (all-front P front back (All-tail P one (front ++ back) all))

pub live-ready : (setting : Setting) (history : List Event) (trace : List TimedFrame) (nodes new : NodesView) (order : Order)
    (sent later : List TimedFrame)
    → IsSetting setting → SendsWhole setting.sends → InOrder setting.requests
    → IsUnderWay setting history trace → AreLiveReady setting history trace nodes → IsOrderFor setting.rules history order
    → (before : AreBeforeCycle setting history trace setting.layout order (learnt_by order.learned (states_of nodes.nodes)))
    → IsTriggered setting.layout order (learnt_by order.learned (states_of nodes.nodes)) sent
    → Follows (live_offers setting.sends setting.owners setting.requests (opening_of order before.known)
    (trace ++ sent) (heard_by sent (learnt_by order.learned (states_of nodes.nodes)))) (trace ++ sent)
    (free_after (order.cycle * setting.layout.cycle) sent) ((order.cycle + 1) * setting.layout.cycle) later
    → order.cycle < 2 ^ 42 → new.layout ≡ setting.layout
    → states_of new.nodes ≡ heard_by (sent ++ later) (learnt_by order.learned (states_of nodes.nodes))
    → AreLiveReady setting (history ++ Open order.cycle order.mask ∷ []) (trace ++ (sent ++ later)) new
live-ready setting history trace nodes new order sent later known whole sorted way live is before triggered follows cycle same heard =
    let event = Open order.cycle order.mask in
    let after : List NodeState = learnt_by order.learned (states_of nodes.nodes) in
    let are = live-learnt setting history trace nodes order way live is in
    let width : order.l ≤ setting.layout.window = subst (λ w. order.l ≤ w) known.same_window is.is.fits in
    let mask : order.mask < 2 ^ setting.layout.slots = subst (λ n. order.mask < 2 ^ n) known.same_slots is.is.slots in
    let were : WereRequests (arrived_by (order.cycle * setting.layout.cycle) setting.requests) trace
    = subst (λ n. WereRequests (arrived_by (n * setting.layout.cycle) setting.requests) trace) (sym is.is.cycle) live.were in
    let bus = live-bus setting.sends setting.layout setting.owners setting.requests before.known trace order after sent later
    known.known sorted are before.before cycle width mask triggered were follows in
    let nodes_are = live-nodes setting.sends setting.layout setting.owners setting.requests before.known trace order after sent later
    known.known sorted are before.before cycle width mask triggered were follows in
    let were_then = live-were setting.sends setting.layout setting.owners setting.requests before.known trace order after sent later
    known.known sorted are before.before cycle width mask triggered were follows in
    let run = live-run setting history trace order after sent later known whole sorted way is are before triggered were follows cycle in
    let next : next_of (history ++ event ∷ []) ≡ order.cycle + 1 = next_of-push history event ∙ ap (λ n. n + 1) (sym is.is.cycle) in
    let ended : All (λ one. end_of one ≤ (order.cycle + 1) * setting.layout.cycle) (sent ++ later)
    = all-behind (λ one. end_of one ≤ (order.cycle + 1) * setting.layout.cycle) trace (sent ++ later)
    (subst (λ n. All (λ one. end_of one ≤ n * setting.layout.cycle) (trace ++ (sent ++ later))) next run.ended) in
    let sent_ended : free_after (order.cycle * setting.layout.cycle) sent ≤ (order.cycle + 1) * setting.layout.cycle
    = free_after-ended (order.cycle * setting.layout.cycle) ((order.cycle + 1) * setting.layout.cycle) sent (omega (arith, add-mul order.cycle 1 setting.layout.cycle))
    (all-front (λ one. end_of one ≤ (order.cycle + 1) * setting.layout.cycle) sent later ended) in
    let all_ended : free_after (free_after (order.cycle * setting.layout.cycle) sent) later ≤ (order.cycle + 1) * setting.layout.cycle
    = free_after-ended (free_after (order.cycle * setting.layout.cycle) sent) ((order.cycle + 1) * setting.layout.cycle) later sent_ended
    (all-behind (λ one. end_of one ≤ (order.cycle + 1) * setting.layout.cycle) sent later ended) in
    record {
      ready = ready-run (record setting { sends = bytes_of }) history trace nodes order live.ready is new (sent ++ later) before.known before.stands
          (same ∙ sym live.ready.same_layout) heard
          (subst (λ l. IsBus l setting.owners setting.requests before.known (trace ++ (sent ++ later)) (order.cycle + 1) (states_of new.nodes)) (sym live.ready.same_layout)
          (subst (λ ns. IsBus setting.layout setting.owners setting.requests before.known (trace ++ (sent ++ later)) (order.cycle + 1) ns) (sym heard) bus));
      are = subst (All IsNode) (sym heard) nodes_are;
      were = subst (λ n. WereRequests (arrived_by (n * setting.layout.cycle) setting.requests) (trace ++ (sent ++ later))) (sym next)
          (were-later (free_after (free_after (order.cycle * setting.layout.cycle) sent) later) ((order.cycle + 1) * setting.layout.cycle) all_ended
          setting.requests (trace ++ (sent ++ later)) were_then);
    }

-- a call that opens no cycle
pub live-answered : (setting : Setting) (trace : List TimedFrame) (nodes : NodesView) (history : List Event) (event : Event) → is_open event ≡ false
    → AreLiveReady setting history trace nodes → AreLiveReady setting (history ++ event ∷ []) trace nodes
live-answered setting trace nodes history event closed live = record {
  ready = ready-answered (record setting { sends = bytes_of }) trace nodes history event closed live.ready;
  are = live.are;
  were = subst (λ n. WereRequests (arrived_by (n * setting.layout.cycle) setting.requests) trace) (sym (next_of-closed history event closed)) live.were;
}

-- before the first cycle
pub live-first : (setting : Setting) (nodes : NodesView) → nodes.layout ≡ setting.layout
    → IsBus setting.layout setting.owners setting.requests [] [] 0 (states_of nodes.nodes)
    → ((number : ℕ) → number < setting.rules.nodes → IsNumber (states_of nodes.nodes) number) → All IsNode (states_of nodes.nodes)
    → AreLiveReady setting [] [] nodes
live-first setting nodes same bus numbers are = record {
  ready = ready-at_first (record setting { sends = bytes_of }) nodes same refl bus numbers;
  are = are;
  were = λ id low. omega arith;
}
