-- The least frame that the nodes of a bus offer within a cycle is the least one that is offered on the bus.
use Rattle.std.proofs.Common.{◌≡◌, ℕ, ◌≤◌, List, [], All, Contains, Option, Some, inl, inr, sym, subst, arith}
use Rattle.std.specs.Prelude.{MatchOption, find}
use Rattle.std.specs.Option.{option_map_or}
use Rattle.std.proofs.lemmas.List.Elements.{All-contains}
use Rattle.can_frame.specs.DataFrame.{DataFrame}
use Rattle.can_frame.specs.declared.data_frame.TimedFrame.{TimedFrame}
use Rattle.cycle_layout.specs.Layout.{CycleLayout}
use Rattle.async_window.specs.declared.request.Owner.{Owner}
use Rattle.async_window.specs.declared.request.Request.{Request}
use Rattle.bus_line.specs.Trace.{IsLeastOffered}
use Rattle.bus_line.specs.Stations.{IsOffered}
use Rattle.requirement_table.specs.Opening.{Opening}
use Rattle.requirement_table.specs.Instance.{bytes_of}
use Rattle.node_model.specs.Node.{NodeState, node_frame, node_offer}
use Rattle.node_model.specs.Offered.{OffersTrigger}
use Rattle.node_model.specs.Own.{OffersLeastOwn, OffersOwn}
use Rattle.cycle_engine.specs.Nodes.{IsOwned}
use Rattle.cycle_engine.specs.Offered.{offered_in}
use Rattle.cycle_engine.specs.SyncWindow.{nodes_alone}
use Rattle.cycle_engine.specs.Stations.{cycle_line, frame_by_nodes, offered_by_nodes, offers_this}
use Rattle.cycle_engine.proofs.Lists.{Contains-filter_map, find-offered}
use Rattle.cycle_engine.proofs.Belongs.{HaveSenders, IsOwn, IsOwn-request, IsOwn-slot}

-- the frame behind an identifier has it
found_id : (at id : ℕ) (o : Option NodeState) → (option_map_or (λ node. node_frame node at id) o (record { identifier = id; bytes = [] })).identifier ≡ id
found_id at id o = grind arith

pub frame_by_nodes-id : (nodes : List NodeState) (at id : ℕ) → (frame_by_nodes nodes at id).identifier ≡ id
frame_by_nodes-id nodes at id = found_id at id (find (λ node. offers_this id (node_offer node at)) nodes)

-- what there is of a part, where its least identifier is known
pub least_of_part : (Own : DataFrame → Type 0) (Is : ℕ → Type 0) (o : Option ℕ) (frame : DataFrame) → Own frame
    → MatchOption o ((frame : DataFrame) → Own frame → ⊥) (λ id. Is id × ((frame : DataFrame) → Own frame → id ≤ frame.identifier))
    → (id : ℕ) × (o ≡ Some id) × (id ≤ frame.identifier)
least_of_part Own Is o frame own part = grind arith

-- the parts of the nodes at a time, which are together what is offered but for the trigger
module _ (layout : CycleLayout) (owners : List Owner) (requests : List Request) (opening : Opening) (past : List TimedFrame) (at : ℕ) (nodes : List NodeState)
    (parts : All (OffersLeastOwn layout owners requests opening past at) nodes)
    (senders : HaveSenders nodes opening) (owned : All (IsOwned owners nodes) requests)
    (no_trigger : (frame : DataFrame) → OffersTrigger layout opening past at frame → ⊥) where
  own_is_offered : (frame : DataFrame) → IsOwn layout owners requests opening past at nodes frame
      → (id : ℕ) × Contains (offered_by_nodes nodes at) id × (id ≤ frame.identifier)
  own_is_offered frame (node, has, own) =
      let Own : DataFrame → Type 0 = OffersOwn node.number layout owners requests opening past at in
      let least = least_of_part Own (λ id. Own (node_frame node at id)) (node_offer node at) frame own (All-contains (OffersLeastOwn layout owners requests opening past at) nodes node parts has) in
      (least.0, Contains-filter_map (λ n. node_offer n at) nodes node least.0 has least.1, least.2)

  in_cycle : (number : ℕ) (frame : DataFrame) → OffersOwn number layout owners requests opening past at frame → offered_in bytes_of layout requests opening past at frame
  in_cycle number frame h0 = grind arith

  offered_is_own : (id : ℕ) → Contains (offered_by_nodes nodes at) id → offered_in bytes_of layout requests opening past at (frame_by_nodes nodes at id)
  offered_is_own id has =
      let found = find-offered (λ n. node_offer n at) nodes id has in
      grind (arith, in_cycle)

  pub is_own : (frame : DataFrame) → offered_in bytes_of layout requests opening past at frame → IsOwn layout owners requests opening past at nodes frame
  is_own frame (inl trigger) = absurd (no_trigger frame trigger)
  is_own frame (inr (inl request)) = IsOwn-request layout owners requests opening past at nodes owned frame request
  is_own frame (inr (inr (slot, offers))) = IsOwn-slot layout owners requests opening past at nodes senders frame slot offers

  -- where something is offered on the bus, a node offers an identifier that is not greater
  pub some_by_nodes : (frame : DataFrame) → offered_in bytes_of layout requests opening past at frame
      → (one : DataFrame) × IsOffered cycle_line (nodes_alone layout nodes) at one × (one.identifier ≤ frame.identifier)
  some_by_nodes frame offers =
      let low = own_is_offered frame (is_own frame offers) in
      let id = low.0 in
      let own = frame_by_nodes-id nodes at id in (grind arith)

  pub least_by_nodes : (frame : DataFrame) → IsOffered cycle_line (nodes_alone layout nodes) at frame
      → ((other : DataFrame) → IsOffered cycle_line (nodes_alone layout nodes) at other → frame.identifier ≤ other.identifier)
      → IsLeastOffered (offered_in bytes_of layout requests opening) past at frame
  least_by_nodes frame offers least = record {
    offered = subst (offered_in bytes_of layout requests opening past at) (sym offers.framed) (offered_is_own frame.identifier offers.contends);
    least = λ other is. let one = some_by_nodes other is in omega (arith, least one.0 one.1, one.2);
  }
