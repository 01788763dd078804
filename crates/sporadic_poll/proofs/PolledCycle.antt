-- A cycle of nodes with polled slots, by the cycle that the nodes run without requests.
use Rattle.std.proofs.Common.{◌≡◌, ℕ, ◌+◌, ◌*◌, ◌<◌, ◌≤◌, true, List, [], ◌∷◌, ◌++◌, All, Option, Some, IsSome, is_some, sym, subst, arith}
use Rattle.std.proofs.Math.Nat.{add-mul}
use Rattle.std.proofs.lemmas.List.Elements.{All-append, All-cons}
use Rattle.can_frame.specs.declared.data_frame.TimedFrame.{TimedFrame}
use Rattle.cycle_layout.specs.Layout.{CycleLayout}
use Rattle.requirement_table.specs.declared.entries.Order.{Order}
use Rattle.requirement_table.specs.declared.entries.Placed.{Placed}
use Rattle.requirement_table.specs.Instance.{Instance, bytes_of}
use Rattle.requirement_table.specs.Opening.{Opening}
use Rattle.requirement_table.specs.Table.{instance_in}
use Rattle.bus_line.specs.Trace.{Follows, Offers}
use Rattle.node_model.specs.Node.{NodeState}
use Rattle.node_model.proofs.Shared.{instance-of_all}
use Rattle.cycle_engine.specs.Cycle.{FitsWindow}
use Rattle.cycle_engine.specs.Nodes.{IsBefore, IsBus, IsSlotKnown, heard_by, learnt_by, opening_of, states_of}
use Rattle.cycle_engine.specs.Offered.{offered_in}
use Rattle.sporadic_poll.specs.Polled.{polled_bytes}
use Rattle.sporadic_poll.specs.PolledNodes.{AreBefore, HaveHeard, PolledView, opened_by}
use Rattle.cycle_engine.specs.Joint.{known_by}
use Rattle.sporadic_poll.specs.Rides.{AreFates, AreRidesAt, HaveRidden, IsPlainCycle, Riding}

some-of : (o : Option Instance) → is_some o ≡ true → (i : Instance) × (o ≡ Some i)
some-of o is = grind arith

-- an instance that a node knows is one of the list
known-found : (layout : CycleLayout) (placed : List Placed) (past : List TimedFrame) (next slot : ℕ) (nodes : List NodeState)
    → IsBus layout [] [] placed past next nodes → IsSlotKnown nodes next slot → IsSome (instance_in placed slot next)
known-found layout placed past next slot nodes bus h1 = grind (arith, some-of, is_some, instance-of_all)

-- the flagged slots of an order fit into the largest window
pub fits-window : (layout : CycleLayout) (placed : List Placed) (past : List TimedFrame) (order : Order) (nodes : List NodeState) → order.l ≤ layout.window
    → IsBefore layout [] [] placed past order nodes → FitsWindow layout (opening_of order placed)
fits-window layout placed past order nodes narrow is = record {
  present = λ slot few flagged. known-found layout placed past order.cycle slot nodes is.bus (is.fits.present slot few flagged);
  width = subst (λ w. w ≤ layout.window) is.fits.width narrow;
}

-- frames that follow start before the end
pub all-before : (offers : Offers) (until : ℕ) (past : List TimedFrame) (free : ℕ) (frames : List TimedFrame) → Follows offers past free until frames
    → All (λ sent. sent.start < until) frames
all-before offers until past free [] follows = λ k d within. absurd (omega arith)
all-before offers until past free (sent ∷ later) follows =
    All-cons (λ (it : TimedFrame). it.start < until) sent later follows.0.within
    (all-before offers until (past ++ sent ∷ []) (sent.start + sent.len) later follows.1)

-- what a run of a cycle without requests says of the nodes
pub record Ran (order : Order) (layout : CycleLayout) (before after : List NodeState) (plain : List TimedFrame) : Type 0 where
  pub heard : after ≡ heard_by plain (learnt_by order.learned before)
  pub runs : (placed : List Placed) (past : List TimedFrame) → IsBefore layout [] [] placed past order (learnt_by order.learned before)
      → Follows (offered_in bytes_of layout [] (opening_of order placed)) past (order.cycle * layout.cycle) ((order.cycle + 1) * layout.cycle) plain
  pub stand : (placed : List Placed) (past : List TimedFrame) → IsBefore layout [] [] placed past order (learnt_by order.learned before)
      → IsBus layout [] [] placed (past ++ plain) (order.cycle + 1) after

-- the nodes heard the cycle
pub have-heard : (order : Order) (old new : PolledView) (plain : List TimedFrame)
    → Ran order old.nodes.layout (states_of old.nodes.nodes) (states_of new.nodes.nodes) plain → new.placed ≡ known_by order.learned old.placed
    → HaveHeard order old new
have-heard order old new plain ran placed = record {
  plain = plain;
  heard = ran.heard;
  follows = λ past before. ran.runs (known_by order.learned old.placed) past before;
  stand = λ past before.
      subst (λ p. IsBus old.nodes.layout [] [] p (past ++ plain) (order.cycle + 1) (states_of new.nodes.nodes)) (sym placed)
      (ran.stand (known_by order.learned old.placed) past before);
  soon = λ past before.
      let E = old.nodes.layout.cycle in
      All-append (λ (sent : TimedFrame). sent.start < (order.cycle + 1) * E) past plain
      (λ k d within. let it = before.before k d within in omega (arith, it, add-mul order.cycle 1 E))
      (all-before (offered_in bytes_of old.nodes.layout [] (opened_by order old.placed)) ((order.cycle + 1) * E) past (order.cycle * E) plain
      (ran.runs (known_by order.learned old.placed) past before));
}

-- what a cycle's frames and the requests are by, where the cycle was run without requests
pub record CarriesBy (layout : CycleLayout) (order : Order) (placed : List Placed) (plain : List TimedFrame) (old new : Riding) (out : List TimedFrame) : Type 0 where
  pub taken : (mask : ℕ) (lengths carried : ℕ → ℕ → Option ℕ)
      → AreRidesAt layout.cycle old.queued.streams (record { cycle = order.cycle; mask = mask; placed = placed }) lengths carried
      → HaveRidden carried order.cycle old → HaveRidden carried (order.cycle + 1) new
  pub fates : (openings : List Opening) (mask : ℕ) (lengths carried : ℕ → ℕ → Option ℕ)
      → AreRidesAt layout.cycle old.queued.streams (record { cycle = order.cycle; mask = mask; placed = placed }) lengths carried
      → HaveRidden carried order.cycle old
      → IsPlainCycle layout (record { cycle = order.cycle; mask = mask; placed = placed }) plain
      → AreFates old.queued.streams openings carried old.fates
      → AreFates old.queued.streams (openings ++ record { cycle = order.cycle; mask = mask; placed = placed } ∷ []) carried new.fates
  pub frames : (mask : ℕ) (lengths carried : ℕ → ℕ → Option ℕ) (past : List TimedFrame)
      → AreRidesAt layout.cycle old.queued.streams (record { cycle = order.cycle; mask = mask; placed = placed }) lengths carried
      → HaveRidden carried order.cycle old
      → IsPlainCycle layout (record { cycle = order.cycle; mask = mask; placed = placed }) plain
      → All (λ sent. sent.start < order.cycle * layout.cycle) past
      → Follows (offered_in (polled_bytes old.queued.streams carried) layout [] (record { cycle = order.cycle; mask = mask; placed = placed })) past
      (order.cycle * layout.cycle) ((order.cycle + 1) * layout.cycle) out

-- the cycle that was run without requests
pub plain-cycle : (order : Order) (old : PolledView) (after : List NodeState) (plain past : List TimedFrame) → order.l ≤ old.nodes.layout.window
    → Ran order old.nodes.layout (states_of old.nodes.nodes) after plain → AreBefore order past old
    → IsPlainCycle old.nodes.layout (opened_by order old.placed) plain
plain-cycle order old after plain past narrow ran before = record {
  past = past;
  before = before.before;
  fits = fits-window old.nodes.layout (known_by order.learned old.placed) past order (learnt_by order.learned (states_of old.nodes.nodes)) narrow before;
  follows = ran.runs (known_by order.learned old.placed) past before;
}
