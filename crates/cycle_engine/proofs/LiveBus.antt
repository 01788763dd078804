-- What nodes offer that take requests while they run is what is offered on the bus.
use Rattle.std.proofs.Common.{◌≡◌, ◌≢◌, ℕ, ◌+◌, ◌<◌, ◌≤◌, List, [], ◌∷◌, ◌++◌, length, drop, All, AllPairs, Contains, Option, None, Some, inl, inr, refl, sym, ap, ◌∙◌, subst, arith, append_assoc, append-nil}
use Rattle.std.specs.Prelude.{MatchOption, option_map, is_some, slice_get}
use Rattle.std.proofs.lemmas.Bool.{cases_lt}
use Rattle.std.proofs.lemmas.List.Elements.{All-contains, All-map}
use Rattle.profile.specs.Limits.{first_identifier}
use Rattle.bit_sets.specs.Sets.{most_slots}
use Rattle.can_frame.specs.DataFrame.{DataFrame}
use Rattle.can_frame.specs.declared.data_frame.TimedFrame.{TimedFrame}
use Rattle.cycle_layout.specs.Layout.{CycleLayout}
use Rattle.requirement_table.specs.Instance.{Instance, bytes_of}
use Rattle.requirement_table.specs.Opening.{Opening}
use Rattle.requirement_table.specs.Table.{IsWellPlaced, instance_in}
use Rattle.async_window.specs.declared.request.Owner.{Owner}
use Rattle.async_window.specs.declared.request.Request.{Request}
use Rattle.async_window.specs.Owners.{AreOwners}
use Rattle.async_window.specs.Mailbox.{IsMail, mail_after, unsent_of}
use Rattle.async_window.specs.Online.{WereRequests, arrived_by, coming_after, forgotten_mail}
use Rattle.async_window.proofs.Shared.{InOrder, IsMail-forgotten, arrived-arrived, coming-late, split-arrived}
use Rattle.bus_line.specs.Trace.{IsLeastOffered}
use Rattle.node_model.specs.Node.{NodeState, identifiers_of, node_frame, node_offer}
use Rattle.node_model.specs.Offered.{OffersRequest, OffersSlot, OffersTrigger}
use Rattle.node_model.specs.Online.{serving}
use Rattle.node_model.specs.Own.{OffersLeastOwn, OffersOwn, StandsIn}
use Rattle.node_model.proofs.Shared.{identifiers_of-all, identifiers_of-distinct, serves-frames, serves-offers}
use Rattle.cycle_engine.specs.Nodes.{IsOwned}
use Rattle.cycle_engine.specs.Offered.{offered_in}
use Rattle.cycle_engine.specs.LiveBus.{OffersLive}
use Rattle.cycle_engine.proofs.Belongs.{HaveSenders, IsOwn, IsOwn-request, IsOwn-slot}
use Rattle.cycle_engine.proofs.Least.{least_of_part}

-- a request has an asynchronous identifier, which is that of no slot
not_both : (id slot : ℕ) → 0x200 ≤ id → slot < most_slots → id ≡ first_identifier + slot → ⊥
not_both id slot high few is = absurd (omega arith)

module _ (sends : Instance → List ℕ) (layout : CycleLayout) (owners : List Owner) (requests : List Request) (opening : Opening)
    (are : AreOwners owners) (order : InOrder requests) (past : List TimedFrame) (at : ℕ) (nodes : List NodeState)
    (stand : All (StandsIn layout owners requests opening past) nodes)
    (parts : All (OffersLeastOwn layout owners requests opening past at) nodes)
    (were : WereRequests (arrived_by at requests) past)
    (senders : HaveSenders nodes opening) (owned : All (IsOwned owners nodes) requests)
    (no_trigger : (frame : DataFrame) → OffersTrigger layout opening past at frame → ⊥) where
  given : List Request
  given = arrived_by at requests

  -- a node that was given these requests offers what the node does that was given all, and sends the same
  stands-split : (node : NodeState) → Contains nodes node
      → StandsIn layout owners (arrived_by at requests ++ coming_after at requests) opening past node
  stands-split node has =
      subst (λ (all : List Request). StandsIn layout owners all opening past node) (split-arrived at requests order)
      (All-contains (StandsIn layout owners requests opening past) nodes node stand has)

  pub same_offer : (node : NodeState) → Contains nodes node
      → node_offer (serving owners (arrived_by at requests) past node) at ≡ node_offer node at
  same_offer node has =
      serves-offers layout owners (arrived_by at requests) (coming_after at requests) opening past node are were (stands-split node has)
      at (arrived-arrived at requests) (coming-late at requests)

  pub known_mail : (node : NodeState) → IsMail (serving owners (arrived_by at requests) past node).mail
  known_mail node =
      IsMail-forgotten (identifiers_of node.number owners) (arrived_by at requests) past
      (identifiers_of-distinct node.number owners are.distinct)
      (identifiers_of-all (λ id. 0x200 ≤ id) node.number owners are.least)
      (identifiers_of-all (λ id. id ≤ 0x7EF) node.number owners are.greatest)

  same_frame : (node : NodeState) (id : ℕ) → Contains nodes node
      → node_offer (serving owners (arrived_by at requests) past node) at ≡ Some id
      → node_frame (serving owners (arrived_by at requests) past node) at id ≡ node_frame node at id
  same_frame node id has offered =
      serves-frames layout owners (arrived_by at requests) (coming_after at requests) opening past node are were (stands-split node has)
      at id (known_mail node) offered

  own-low : (number id : ℕ) → Contains (identifiers_of number owners) id → 0x200 ≤ id
  own-low number id among =
      All-contains (λ n. 0x200 ≤ n) (identifiers_of number owners) id (identifiers_of-all (λ n. 0x200 ≤ n) number owners are.least) among

  -- what an instance sends in a slot
  slot-sends : (frame other : DataFrame) (slot : ℕ) (instance : Instance) → OffersSlot bytes_of layout opening past at frame slot
      → instance_in opening.placed slot opening.cycle ≡ Some instance → other.identifier ≡ first_identifier + slot
      → other.bytes ≡ sends instance → OffersSlot sends layout opening past at other slot
  slot-sends frame other slot instance offers is identifier bytes = record {
    begun = offers.begun;
    late_enough = offers.late_enough;
    within = offers.within;
    known = offers.known;
    flagged = offers.flagged;
    unsent = offers.unsent;
    identifier = identifier;
    bytes = ap (λ found. option_map sends found) is ∙ ap (λ xs. Some xs) (sym bytes);
  }

  -- what one of them offers is offered on the bus
  pub live_is_offered : (frame : DataFrame) → OffersLive sends owners requests opening nodes past at frame
      → offered_in sends layout requests opening past at frame
  live_is_offered frame live =
      let node : NodeState = live.node in
      let id : ℕ = frame.identifier in
      let offers : node_offer node at ≡ Some id = sym (same_offer node live.has) ∙ live.offered in
      let part = All-contains (OffersLeastOwn layout owners requests opening past at) nodes node parts live.has in
      let own = subst (λ (o : Option ℕ). MatchOption o
      ((f : DataFrame) → OffersOwn node.number layout owners requests opening past at f → ⊥)
      (λ n. OffersOwn node.number layout owners requests opening past at (node_frame node at n)
      × ((f : DataFrame) → OffersOwn node.number layout owners requests opening past at f → n ≤ f.identifier))) offers part in
      by_part own.0
    where
      by_part : OffersOwn live.node.number layout owners requests opening past at (node_frame live.node at frame.identifier)
          → offered_in sends layout requests opening past at frame
      by_part (inl (request, among)) =
          let is : frame ≡ node_frame live.node at frame.identifier
          = live.as_put (own-low live.node.number frame.identifier among)
          ∙ same_frame live.node frame.identifier live.has live.offered in
          inr (inl (subst (OffersRequest layout requests opening past at) (sym is) request))
      by_part (inr (slot, offers, (instance, is, number))) =
          inr (inr (
            slot,
            slot-sends (node_frame live.node at frame.identifier) frame slot instance offers is offers.identifier
                (live.as_set slot instance offers.known offers.identifier is),
          ))

  -- where something is offered on the bus, one of them offers a frame whose identifier is not greater
  Found : DataFrame → Type 0
  Found frame = (one : DataFrame) × OffersLive sends owners requests opening nodes past at one × (one.identifier ≤ frame.identifier)

  from_own : (frame like : DataFrame) → like.identifier ≡ frame.identifier → IsOwn layout owners requests opening past at nodes like
      → (one : DataFrame) × OffersLive sends owners requests opening nodes past at one × (one.identifier ≤ frame.identifier)
  from_own frame like same (node, has, own) =
      let Own : DataFrame → Type 0 = OffersOwn node.number layout owners requests opening past at in
      let part = All-contains (OffersLeastOwn layout owners requests opening past at) nodes node parts has in
      let least = least_of_part Own (λ id. Own (node_frame node at id)) (node_offer node at) like own part in
      let sent = subst (λ (o : Option ℕ). MatchOption o ((f : DataFrame) → Own f → ⊥)
      (λ n. Own (node_frame node at n) × ((f : DataFrame) → Own f → n ≤ f.identifier))) least.1 part in
      let made = by_part least.0 least.1 sent.0 in
      (made.0, made.1, subst (λ n. made.0.identifier ≤ n) same (subst (λ n. n ≤ like.identifier) (sym made.2) least.2))
    where
      by_part : (id : ℕ) → node_offer node at ≡ Some id → OffersOwn node.number layout owners requests opening past at (node_frame node at id)
          → (one : DataFrame) × OffersLive sends owners requests opening nodes past at one × (one.identifier ≡ id)
      by_part id offers (inl (request, among)) =
          let high : 0x200 ≤ id = own-low node.number id among in (
            node_frame (serving owners (arrived_by at requests) past node) at id,
            record {
              node = node;
              has = has;
              offered = same_offer node has ∙ offers;
              as_put = λ _. refl;
              as_set = λ slot instance few is found. absurd (not_both id slot high few is);
            },
            refl,
          )
      by_part id offers (inr (slot, own_slot, (instance, is, number))) = (
        record { identifier = id; bytes = sends instance },
        record {
          node = node;
          has = has;
          offered = same_offer node has ∙ offers;
          as_put = λ high. absurd (not_both id slot high own_slot.known own_slot.identifier);
          as_set = λ other found few named there.
              let slots : other ≡ slot = omega (arith, own_slot.identifier) in
              let both : Some instance ≡ Some found = sym is ∙ ap (λ s. instance_in opening.placed s opening.cycle) (sym slots) ∙ there in
              let one : instance ≡ found = cc (both) in
              ap sends one;
        },
        refl,
      )

  pub offered_is_live : (frame : DataFrame) → offered_in sends layout requests opening past at frame
      → (one : DataFrame) × OffersLive sends owners requests opening nodes past at one × (one.identifier ≤ frame.identifier)
  offered_is_live frame (inl trigger) = absurd (no_trigger frame trigger)
  offered_is_live frame (inr (inl request)) =
      from_own frame frame refl (IsOwn-request layout owners requests opening past at nodes owned frame request)
  offered_is_live frame (inr (inr (slot, offers))) =
      let sender = senders slot offers.known offers.flagged in
      let like : DataFrame = record { identifier = frame.identifier; bytes = bytes_of sender.0 } in
      from_own frame like refl
      (IsOwn-slot layout owners requests opening past at nodes senders like slot (record {
        begun = offers.begun;
        late_enough = offers.late_enough;
        within = offers.within;
        known = offers.known;
        flagged = offers.flagged;
        unsent = offers.unsent;
        identifier = offers.identifier;
        bytes = ap (λ found. option_map bytes_of found) sender.1;
      }))

  -- so the least frame that they offer is the least one that is offered on the bus
  pub least_is_live : (frame : DataFrame) → IsLeastOffered (λ past at frame. OffersLive sends owners requests opening nodes past at frame) past at frame
      → IsLeastOffered (offered_in sends layout requests opening) past at frame
  least_is_live frame least = record {
    offered = live_is_offered frame least.offered;
    least = λ other offers. let one = offered_is_live other offers in omega (arith, least.least one.0 one.1, one.2);
  }
