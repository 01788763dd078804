-- Each frame that is offered in a cycle besides the trigger frames is one node's own.
use Rattle.std.proofs.Common.{◌≡◌, ℕ, ◌<◌, Bool, true, List, All, Contains, Option, None, Some, IsSome, inl, inr, refl, sym, ap, ◌∙◌, subst}
use Rattle.std.specs.Prelude.{◌==◌, filter, map}
use Rattle.std.specs.List.{slice_get}
use Rattle.std.proofs.lemmas.Bool.{eq-eqb, false≢true}
use Rattle.std.proofs.lemmas.List.Elements.{All-contains, All-contains_itself, All-drop, All-filter}
use Rattle.can_frame.specs.DataFrame.{DataFrame}
use Rattle.can_frame.specs.declared.data_frame.TimedFrame.{TimedFrame}
use Rattle.cycle_layout.specs.Layout.{CycleLayout}
use Rattle.requirement_table.specs.Instance.{Instance, bytes_of}
use Rattle.bit_sets.specs.Sets.{has_bit, most_slots}
use Rattle.requirement_table.specs.Table.{IsWellPlaced, instance_in}
use Rattle.async_window.specs.declared.request.Owner.{Owner}
use Rattle.async_window.specs.declared.request.Request.{Request}
use Rattle.async_window.specs.Waiting.{frames_with, requests_of, unsent_after}
use Rattle.requirement_table.specs.Opening.{Opening}
use Rattle.node_model.specs.Offered.{OffersRequest, OffersSlot}
use Rattle.node_model.specs.Node.{NodeState, entries_of, identifiers_of}
use Rattle.node_model.specs.Own.{OffersOwn, StandsOnBus}
use Rattle.node_model.proofs.Shared.{instance-of_all}
use Rattle.cycle_engine.specs.Nodes.{IsNumber, IsOwned, IsSlotKnown}
use Rattle.cycle_engine.proofs.Lists.{Contains-slice_get, Contains-map, Contains-from_map, Contains-filter}

-- the first unsent request of an identifier is one of the requests
is_request : (requests : List Request) (past : List TimedFrame) (id : ℕ) (request : Request)
    → slice_get (unsent_after requests past id) 0 ≡ Some request → Contains requests request
is_request requests past id request first =
    let kept = All-filter (λ x. x.frame.identifier == id) (Contains requests) requests (All-contains_itself requests) in
    let unsent = All-drop (Contains requests) (frames_with past id) (requests_of requests id) kept in
    All-contains (Contains requests) (unsent_after requests past id) request unsent (Contains-slice_get (unsent_after requests past id) 0 request first)

-- an owner's identifier is one of its node
pub Contains-identifiers : (number : ℕ) (owners : List Owner) (owner : Owner) → Contains owners owner → owner.node ≡ number
    → Contains (identifiers_of number owners) owner.id
Contains-identifiers number owners owner has same =
    let Own : Owner → Bool = λ x. x.node == number in
    Contains-map (λ x. x.id) (filter Own owners) owner (Contains-filter Own owners owner has (eq-eqb owner.node number same))

-- each flagged slot has an instance that may be sent in the cycle, of an entry of one of the nodes
abbrev pub HaveSenders : List NodeState → Opening → Type 0
HaveSenders nodes opening = (slot : ℕ) → slot < most_slots → has_bit opening.mask slot ≡ true
    → (instance : Instance) × (instance_in opening.placed slot opening.cycle ≡ Some instance) × IsNumber nodes instance.placed.entry.node

pub some_instance : (o : Option Instance) → IsSome o → (instance : Instance) × (o ≡ Some instance)
some_instance (Some instance) some = (instance, refl)
some_instance None some = absurd (false≢true some)

-- what a node knows of its slots stands in the list that it learnt
pub known-senders : (layout : CycleLayout) (owners : List Owner) (requests : List Request) (past : List TimedFrame) (next : ℕ) (opening : Opening) (nodes : List NodeState)
    → IsWellPlaced opening.placed → All (StandsOnBus layout owners requests opening.placed past next) nodes
    → ((slot : ℕ) → slot < most_slots → has_bit opening.mask slot ≡ true → IsSlotKnown nodes opening.cycle slot) → HaveSenders nodes opening
known-senders layout owners requests past next opening nodes well stand known slot within flagged =
    let is = known slot within flagged in
    let node : NodeState = is.1 in
    let has : Contains nodes node = (is.0, is.2, is.3) in
    let stands = All-contains (StandsOnBus layout owners requests opening.placed past next) nodes node stand has in
    let found = some_instance (instance_in node.entries slot opening.cycle) is.4 in
    let own : instance_in (entries_of node.number opening.placed) slot opening.cycle ≡ Some found.0 =
    ap (λ entries. instance_in entries slot opening.cycle) (sym stands.own_entries) ∙ found.1 in
    let of_all = instance-of_all node.number opening.placed slot opening.cycle found.0 well own in
    (found.0, of_all.0, subst (Contains (map (λ n. n.number) nodes)) (sym of_all.1) (Contains-map (λ n. n.number) nodes node has))

module _ (layout : CycleLayout) (owners : List Owner) (requests : List Request) (opening : Opening) (past : List TimedFrame) (at : ℕ) (nodes : List NodeState) where
  -- the frame belongs to the part of a node
  abbrev pub IsOwn : DataFrame → Type 0
  IsOwn frame = (node : NodeState) × Contains nodes node × OffersOwn node.number layout owners requests opening past at frame

  pub IsOwn-request : All (IsOwned owners nodes) requests → (frame : DataFrame) → OffersRequest layout requests opening past at frame → IsOwn frame
  IsOwn-request owned frame offers =
      let has = is_request requests past frame.identifier offers.request offers.may_start.waiting.first in
      let own = All-contains (IsOwned owners nodes) requests offers.request owned has in
      let found = Contains-from_map (λ n. n.number) nodes own.owner.node own.node in
      let node = found.0 in
      let same : own.owner.id ≡ frame.identifier = own.identifier ∙ ap (λ f. f.identifier) (sym offers.its_frame) in
      let contains = subst (Contains (identifiers_of node.number owners)) same (Contains-identifiers node.number owners own.owner own.owns (sym found.2)) in
      (node, found.1, inl (offers, contains))

  pub IsOwn-slot : HaveSenders nodes opening → (frame : DataFrame) (slot : ℕ) → OffersSlot bytes_of layout opening past at frame slot → IsOwn frame
  IsOwn-slot senders frame slot offers =
      let sender = senders slot offers.known offers.flagged in
      let found = Contains-from_map (λ n. n.number) nodes sender.0.placed.entry.node sender.2 in
      (found.0, found.1, inr (slot, offers, (sender.0, sender.1, sym found.2)))
