-- What proofs of the crates above may take from here: lemmas about the definitions of this crate.
use Rattle.std.proofs.Common.{◌≡◌, ◌∙◌, ◌≤◌, ◌+◌, ◌*◌, ℕ, List, [], ◌∷◌, ◌++◌, length, true, nat_eq, sym, ap, subst, inl, inr, arith}
use Rattle.std.specs.List.{Any, list_any}
use Rattle.std.proofs.lemmas.Bool.{eqb-true}
use Rattle.std.proofs.lemmas.List.{length-append}
use Rattle.std.proofs.lemmas.List.Folds.{Any-from_list_any}
use Rattle.can_frame.specs.declared.data_frame.TimedFrame.{TimedFrame}
use Rattle.cycle_layout.specs.Layout.{CycleLayout}
use Rattle.trigger_kind.specs.Kind.{IsSlots}
use Rattle.bit_sets.specs.Sets.{most_slots}
use Rattle.requirement_table.specs.Instance.{bytes_of}
use Rattle.requirement_table.specs.declared.entries.Order.{Order}
use Rattle.requirement_table.specs.declared.entries.Placed.{Placed}
use Rattle.async_window.specs.declared.request.Owner.{Owner}
use Rattle.async_window.specs.declared.request.Request.{Request}
use Rattle.bus_line.specs.Trace.{Follows}
use Rattle.node_model.specs.Node.{NodeState}
use Rattle.cycle_engine.specs.Nodes.{IsBefore, IsBus, NodesView, heard_by, learnt_by, opening_of, states_of}
use Rattle.cycle_engine.specs.Offered.{offered_in}
use Rattle.kept_run.proofs.Shared.{RanOrder}
use Rattle.admission.specs.Verdict.{IsRules}
use Rattle.system_file.specs.SystemFile.{IsSystem}
use Rattle.system_file.specs.declared.system.System.{System}
use Rattle.master_core.specs.declared.event.Event.{Event}
pub use Rattle.replay_run.proofs.Fronts.{cut-at, started-all, started-early, started-within}
pub use Rattle.replay_run.proofs.Openings.{cycle-at, distinct, openings_of-append, so-many}
pub use Rattle.replay_run.proofs.Whole.{begun-at_once, begun-of, caused, cut-as, cut-before_more, cut-weaker, front-at, heard-as, log-weaker, not-begun, run-of}

few_slots : (slots : ℕ) → IsSlots slots → slots ≤ most_slots
few_slots slots (inl few) = omega (arith, few)
few_slots slots (inr many) = omega (arith, many)

-- the rules of a system are in range
pub is_rules : (system : System) → IsSystem system → IsRules system.rules
is_rules system is = record {
  some_nodes = is.some_nodes;
  few_nodes = is.few_nodes;
  few_slots = subst (λ s. s ≤ most_slots) (sym is.same_slots) (few_slots system.layout.slots is.layout.slots_range);
  least_window = subst (λ w. 55 ≤ w) (sym is.same_window) is.layout.window_range.above;
  greatest_window = subst (λ w. w ≤ 16383) (sym is.same_window) is.layout.window_range.below;
  some_cycles = is.some_horizon;
  near_horizon = is.near_horizon;
}

-- an identifier that passes the test has an owner
pub owner-of : (owners : List Owner) (id : ℕ) → list_any (λ owner. nat_eq owner.id id) owners ≡ true → Any (λ owner. owner.id ≡ id) owners
owner-of owners id is =
    let found = Any-from_list_any (λ owner. nat_eq owner.id id) owners is in
    (found.0, found.1, found.2, found.3, eqb-true _ _ found.4)

-- a history that ends in an event has one
pub some-event : (history : List Event) (event : Event) (before : List Event) → history ≡ before ++ event ∷ [] → 1 ≤ length history
some-event history event before is = let more = ap length is ∙ length-append before (event ∷ []) in omega (arith, more)

-- a cycle was run so by nodes of this layout in these states
module _ (order : Order) (new : NodesView) (frames : List TimedFrame) where
  abbrev RanBy : CycleLayout → List NodeState → Type 0
  RanBy layout states = (new.layout ≡ layout)
      × (states_of new.nodes ≡ heard_by frames (learnt_by order.learned states))
      × ((owners : List Owner) (requests : List Request) (placed : List Placed) (past : List TimedFrame)
      → IsBefore layout owners requests placed past order (learnt_by order.learned states)
      → Follows (offered_in bytes_of layout requests (opening_of order placed)) past (order.cycle * layout.cycle) ((order.cycle + 1) * layout.cycle) frames)
      × ((owners : List Owner) (requests : List Request) (placed : List Placed) (past : List TimedFrame)
      → IsBefore layout owners requests placed past order (learnt_by order.learned states)
      → IsBus layout owners requests placed (past ++ frames) (order.cycle + 1) (states_of new.nodes))

  -- so it was by nodes of the same layout in the same states
  pub ran-by : (one other : NodesView) → one.layout ≡ other.layout → states_of one.nodes ≡ states_of other.nodes
      → RanOrder order one new frames → RanOrder order other new frames
  ran-by one other layout same ran =
      let (fits, heard, runs, stand) = subst (RanBy other.layout) same
      (subst (λ l. RanBy l (states_of one.nodes)) layout (ran.layout, ran.heard, ran.runs, ran.stand)) in
      record { layout = fits; heard = heard; runs = runs; stand = stand }
