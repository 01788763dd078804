-- What proofs of the crates above may take from here: what the laws of this crate say of a run, as records of what they
-- ensure; that each step of a run keeps it on the way by them; and lemmas about lists and histories.
use Rattle.std.proofs.Common.{◌≡◌, ℕ, ◌+◌, ◌*◌, ◌++◌, ◌∙◌, List, [], ◌∷◌, All, false, subst, sym}
use Rattle.can_frame.specs.declared.data_frame.TimedFrame.{TimedFrame}
use Rattle.async_window.specs.declared.request.Owner.{Owner}
use Rattle.async_window.specs.declared.request.Request.{Request}
use Rattle.requirement_table.specs.declared.entries.Order.{Order}
use Rattle.requirement_table.specs.declared.entries.Placed.{Placed}
use Rattle.requirement_table.specs.Instance.{Instance, bytes_of}
use Rattle.cycle_layout.specs.Layout.{CycleLayout}
use Rattle.bus_line.specs.Trace.{Follows}
use Rattle.cycle_engine.specs.Nodes.{IsBefore, IsBus, IsNumber, NodesView, heard_by, learnt_by, opening_of, states_of}
use Rattle.cycle_engine.specs.Offered.{offered_in}
use Rattle.master_core.specs.declared.event.Event.{Event}
use Rattle.master_core.specs.declared.event.Event.TheVariants.{Open}
use Rattle.master_core.specs.History.{IsLegal, is_open, next_of, placed_of}
use Rattle.master_core.specs.Orders.{IsOrderFor, StandsFor}
use Rattle.kept_run.specs.Kept.{Kept}
use Rattle.kept_run.specs.Progress.{AreBeforeCycle, AreNodesReady, IsOnTheWay, IsUnderWay}
use Rattle.kept_run.specs.Setting.{IsSetting, Setting}
use Rattle.kept_run.specs.Served.{ForgetsEnds}
pub use Rattle.master_core.proofs.Shared.{next_of-push}
pub use Rattle.kept_run.proofs.Histories.{AllAfter-parts, legal-but_last, legal-parts}
pub use Rattle.kept_run.proofs.Lists.{Contains-filter, filter-filter, filter-same, number-below, place-of}
pub use Rattle.kept_run.proofs.Opened.{AreOpenedBy, opened-legal}
pub use Rattle.kept_run.proofs.Plans.{mask-planned, mask-sendable, planned_once}
pub use Rattle.kept_run.proofs.Ready.{order-whole}
pub use Rattle.kept_run.proofs.Served.{bytes_of-forgets, second_identifiers}
pub use Rattle.kept_run.proofs.Standing.{SameIn, follows-same, stands-now, width-same}
pub use Rattle.kept_run.proofs.Steps.{answered, begins, opened, opened-fits}

-- a run that is under way keeps what is promised
pub record Promises : Type 0 where
  pub kept : (setting : Setting) (history : List Event) (trace : List TimedFrame) → IsSetting setting → ForgetsEnds setting.sends
      → IsUnderWay setting history trace → Kept setting history trace

-- calls that open no cycle keep a run under way and its nodes ready
pub record CallsBetween : Type 0 where
  pub under_way : (setting : Setting) (history calls : List Event) (trace : List TimedFrame) → All (λ call. is_open call ≡ false) calls
      → IsLegal setting.rules (history ++ calls) → IsUnderWay setting history trace → IsUnderWay setting (history ++ calls) trace
  pub ready : (setting : Setting) (history calls : List Event) (trace : List TimedFrame) (nodes : NodesView)
      → All (λ call. is_open call ≡ false) calls → IsLegal setting.rules (history ++ calls)
      → AreNodesReady setting history trace nodes → AreNodesReady setting (history ++ calls) trace nodes

-- so a run that is on the way is so behind such calls
pub way-called : CallsBetween → (setting : Setting) (history calls : List Event) (trace : List TimedFrame) (nodes : NodesView)
    → All (λ call. is_open call ≡ false) calls → IsLegal setting.rules (history ++ calls)
    → IsOnTheWay setting history trace nodes → IsOnTheWay setting (history ++ calls) trace nodes
way-called laws setting history calls trace nodes closed legal way = record {
  known = way.known;
  under_way = laws.under_way setting history calls trace closed legal way.under_way;
  ready = laws.ready setting history calls trace nodes closed legal way.ready;
}

-- and it is so with nodes that know the same, whatever memory they took
pub way-same : (setting : Setting) (history : List Event) (trace : List TimedFrame) (nodes new : NodesView) → new.layout ≡ nodes.layout
    → states_of new.nodes ≡ states_of nodes.nodes → IsOnTheWay setting history trace nodes → IsOnTheWay setting history trace new
way-same setting history trace nodes new layout states way =
    let ready = way.ready in
    record {
      known = way.known;
      under_way = way.under_way;
      ready = record {
        same_layout = layout ∙ ready.same_layout;
        same_bytes = ready.same_bytes;
        numbers = λ number below. subst (λ known. IsNumber known number) (sym states) (ready.numbers number below);
        known = ready.known;
        bus = subst (λ known. IsBus setting.layout setting.owners setting.requests ready.known trace (next_of history) known) (sym states) ready.bus;
        up_to_date = ready.up_to_date;
      };
    }

-- a cycle that is run by the master's order keeps a run under way and leaves its nodes ready
pub record CyclesRun : Type 0 where
  pub before : (setting : Setting) (history : List Event) (trace : List TimedFrame) (nodes : NodesView) (order : Order)
      → IsUnderWay setting history trace → AreNodesReady setting history trace nodes → IsOrderFor setting.rules history order
      → AreBeforeCycle setting history trace nodes.layout order (learnt_by order.learned (states_of nodes.nodes))
  pub same_offers : (sends : Instance → List ℕ) (layout : CycleLayout) (requests : List Request) (cycle mask : ℕ) (whole list : List Placed)
      (past frames : List TimedFrame) (free until : ℕ) → StandsFor cycle whole list
      → Follows (offered_in sends layout requests (record { cycle = cycle; mask = mask; placed = list })) past free until frames
      → Follows (offered_in sends layout requests (record { cycle = cycle; mask = mask; placed = whole })) past free until frames
  pub under_way : (setting : Setting) (history : List Event) (trace frames : List TimedFrame) (nodes : NodesView) (order : Order)
      → IsSetting setting → IsUnderWay setting history trace → AreNodesReady setting history trace nodes → IsOrderFor setting.rules history order
      → Follows (offered_in bytes_of nodes.layout setting.requests (opening_of order (placed_of history)))
      trace (order.cycle * nodes.layout.cycle) ((order.cycle + 1) * nodes.layout.cycle) frames
      → IsUnderWay setting (history ++ Open order.cycle order.mask ∷ []) (trace ++ frames)
  pub ready : (setting : Setting) (history : List Event) (trace frames : List TimedFrame) (nodes new : NodesView) (order : Order) (known : List Placed)
      → StandsFor (next_of history) (placed_of history) known
      → IsUnderWay setting history trace → AreNodesReady setting history trace nodes → IsOrderFor setting.rules history order
      → new.layout ≡ nodes.layout → states_of new.nodes ≡ heard_by frames (learnt_by order.learned (states_of nodes.nodes))
      → IsBus nodes.layout setting.owners setting.requests known (trace ++ frames) (order.cycle + 1) (states_of new.nodes)
      → AreNodesReady setting (history ++ Open order.cycle order.mask ∷ []) (trace ++ frames) new

-- what the run of an order gives
pub record RanOrder (order : Order) (nodes new : NodesView) (frames : List TimedFrame) : Type 0 where
  pub layout : new.layout ≡ nodes.layout
  pub heard : states_of new.nodes ≡ heard_by frames (learnt_by order.learned (states_of nodes.nodes))
  pub runs : (owners : List Owner) (requests : List Request) (placed : List Placed) (past : List TimedFrame)
      → IsBefore nodes.layout owners requests placed past order (learnt_by order.learned (states_of nodes.nodes))
      → Follows (offered_in bytes_of nodes.layout requests (opening_of order placed)) past
      (order.cycle * nodes.layout.cycle) ((order.cycle + 1) * nodes.layout.cycle) frames
  pub stand : (owners : List Owner) (requests : List Request) (placed : List Placed) (past : List TimedFrame)
      → IsBefore nodes.layout owners requests placed past order (learnt_by order.learned (states_of nodes.nodes))
      → IsBus nodes.layout owners requests placed (past ++ frames) (order.cycle + 1) (states_of new.nodes)

module _ (laws : CyclesRun) (setting : Setting) (history : List Event) (trace frames : List TimedFrame) (nodes new : NodesView) (order : Order)
    (ordered : IsOrderFor setting.rules history order) (did : RanOrder order nodes new frames) (way : IsOnTheWay setting history trace nodes) where
  before : AreBeforeCycle setting history trace nodes.layout order (learnt_by order.learned (states_of nodes.nodes))
  before = laws.before setting history trace nodes order way.under_way way.ready ordered

  -- the frames of a cycle that was run by the order of its history follow the trace by what all placed entries offer
  pub ran-follows : Follows (offered_in bytes_of nodes.layout setting.requests (opening_of order (placed_of history))) trace
      (order.cycle * nodes.layout.cycle) ((order.cycle + 1) * nodes.layout.cycle) frames
  ran-follows =
      laws.same_offers bytes_of nodes.layout setting.requests order.cycle order.mask (placed_of history) before.known trace frames
      (order.cycle * nodes.layout.cycle) ((order.cycle + 1) * nodes.layout.cycle)
      (subst (λ n. StandsFor n (placed_of history) before.known) (sym ordered.is.cycle) before.stands)
      (did.runs setting.owners setting.requests before.known trace before.before)

  -- so a run that is on the way is so behind its opening
  pub way-run : IsOnTheWay setting (history ++ Open order.cycle order.mask ∷ []) (trace ++ frames) new
  way-run = record {
    known = way.known;
    under_way = laws.under_way setting history trace frames nodes order way.known way.under_way way.ready ordered ran-follows;
    ready = laws.ready setting history trace frames nodes new order before.known before.stands way.under_way way.ready ordered did.layout did.heard
        (did.stand setting.owners setting.requests before.known trace before.before);
  }
