-- A run of the bus over the nodes and the trigger frames of a cycle gives the frames that are offered in the cycle, and
-- the nodes stand for them.
use Rattle.std.proofs.Common.{◌≡◌, ℕ, ◌+◌, ◌^◌, ◌<◌, ◌≤◌, List, [], ◌∷◌, ◌++◌, All, Contains, map, inl, inr, refl, sym, ap, ◌∙◌, subst, arith, append_assoc, append-nil}
use Rattle.std.specs.Prelude.{◌==◌, fold}
use Rattle.std.proofs.Math.Nat.{add-mul, div-eq_of_lt-le}
use Rattle.std.proofs.lemmas.List.Elements.{All-contains, All-filter, All-map, All-weaker}
use Rattle.std.proofs.lemmas.List.Sums.{fold-append}
use Rattle.can_frame.specs.DataFrame.{DataFrame}
use Rattle.can_frame.specs.declared.data_frame.TimedFrame.{TimedFrame}
use Rattle.cycle_layout.specs.Layout.{CycleLayout, IsLayout, trigger_part}
use Rattle.requirement_table.specs.Instance.{bytes_of}
use Rattle.requirement_table.specs.Table.{IsWellPlaced}
use Rattle.async_window.specs.declared.request.Owner.{Owner}
use Rattle.async_window.specs.declared.request.Request.{Request}
use Rattle.bus_line.specs.Trace.{Follows, IsNext, NothingOffered, end_of, free_after}
use Rattle.bus_line.specs.Stations.{IsOffered, offers_of, told}
use Rattle.requirement_table.specs.Opening.{Opening, width_of}
use Rattle.node_model.specs.Opening.{end_of_cycle, start_of}
use Rattle.trigger_kind.specs.Kind.{greatest_trigger}
use Rattle.trigger_kind.proofs.Shared.{above-opens_not}
use Rattle.node_model.specs.Node.{IsNode, NodeState, after_hearing, identifiers_of}
use Rattle.node_model.specs.Offered.{OffersRequest, trigger_frames}
use Rattle.async_window.specs.Owners.{AreOwners}
use Rattle.node_model.specs.Own.{OffersLeastOwn, OffersOwn, StandsIn, StandsOnBus}
use Rattle.node_model.proofs.Shared.{node-hearing, offers_own_part, stands-later, stands-trigger}
use Rattle.cycle_engine.specs.Nodes.{IsNumber, IsOwned, heard_by}
use Rattle.cycle_engine.specs.Offered.{offered_in}
use Rattle.cycle_engine.specs.Stations.{Stationed, all_hear, announced, cycle_line}
use Rattle.cycle_engine.specs.SyncWindow.{nodes_alone}
use Rattle.cycle_engine.proofs.Belongs.{HaveSenders, IsOwn-request}
use Rattle.cycle_engine.proofs.Least.{is_own, least_by_nodes, some_by_nodes}
use Rattle.cycle_engine.proofs.Hearing.{number_kept}
use Rattle.cycle_engine.proofs.TriggerFrames.{AreLeft, AreLeft-all, AreLeft-sent, Follows-left, NoTrigger, NoTrigger-more, NoTrigger-sent, frames_long, frames_short, free_after-later, low_ids, opens_last}
use Rattle.cycle_engine.proofs.Announced.{CanBeHeard, go-first, heard-first, heard-twice, map-same, map-twice}

numbers_kept : (nodes : List NodeState) (sent : TimedFrame) → map (λ node. node.number) nodes ≡ map (λ node. node.number) (all_hear nodes sent)
numbers_kept [] sent = refl
numbers_kept (node ∷ nodes) sent =
    ap (λ n. n ∷ map (λ x. x.number) nodes) (sym (number_kept node sent)) ∙ ap (λ ns. (after_hearing node sent).number ∷ ns) (numbers_kept nodes sent)

IsNumber-kept : (nodes : List NodeState) (sent : TimedFrame) (number : ℕ) → IsNumber nodes number → IsNumber (all_hear nodes sent) number
IsNumber-kept nodes sent number is = subst (λ numbers. Contains numbers number) (numbers_kept nodes sent) is

IsOwned-kept : (owners : List Owner) (nodes : List NodeState) (sent : TimedFrame) (request : Request) → IsOwned owners nodes request → IsOwned owners (all_hear nodes sent) request
IsOwned-kept owners nodes sent request is = grind (arith, IsNumber-kept)

HaveSenders-kept : (opening : Opening) (nodes : List NodeState) (sent : TimedFrame) → HaveSenders nodes opening → HaveSenders (all_hear nodes sent) opening
HaveSenders-kept opening nodes sent h0 = grind (arith, IsNumber-kept)

-- the same behind more frames
HaveSenders-heard : (opening : Opening) (frames : List TimedFrame) (nodes : List NodeState) → HaveSenders nodes opening → HaveSenders (heard_by frames nodes) opening
HaveSenders-heard opening [] nodes senders = subst (λ ns. HaveSenders ns opening) (sym (map-same nodes)) senders
HaveSenders-heard opening (sent ∷ later) nodes senders =
    subst (λ ns. HaveSenders ns opening) (heard-first sent later nodes)
    (HaveSenders-heard opening later (all_hear nodes sent) (HaveSenders-kept opening nodes sent senders))

IsOwned-heard : (owners : List Owner) (frames : List TimedFrame) (nodes : List NodeState) (request : Request) → IsOwned owners nodes request → IsOwned owners (heard_by frames nodes) request
IsOwned-heard owners [] nodes request is = subst (λ ns. IsOwned owners ns request) (sym (map-same nodes)) is
IsOwned-heard owners (sent ∷ later) nodes request is =
    subst (λ ns. IsOwned owners ns request) (heard-first sent later nodes)
    (IsOwned-heard owners later (all_hear nodes sent) request (IsOwned-kept owners nodes sent request is))

-- the nodes of a bus within an opened cycle
pub record Standing (layout : CycleLayout) (owners : List Owner) (requests : List Request) (opening : Opening) (past : List TimedFrame) (nodes : List NodeState) : Type 0 where
  pub are : All IsNode nodes
  pub stand : All (StandsIn layout owners requests opening past) nodes
  pub senders : HaveSenders nodes opening
  pub owned : All (IsOwned owners nodes) requests

module _ (layout : CycleLayout) (owners : List Owner) (requests : List Request) (opening : Opening)
    (are_owners : AreOwners owners) (well_placed : IsWellPlaced opening.placed) where
  -- nodes that hear one more frame of the cycle
  pub Standing-more : (past : List TimedFrame) (nodes : List NodeState) (sent : TimedFrame) → greatest_trigger < sent.frame.identifier → start_of layout opening ≤ sent.start
      → Standing layout owners requests opening past nodes → Standing layout owners requests opening (past ++ sent ∷ []) (all_hear nodes sent)
  Standing-more past nodes sent other begun standing = record {
    are = All-map IsNode (λ node. after_hearing node sent) nodes (All-weaker IsNode (λ node. IsNode (after_hearing node sent)) (λ node is. node-hearing node sent (λ opens. absurd (above-opens_not node.layout.slots sent.frame.identifier other opens)) is) nodes standing.are);
    stand = All-map (StandsIn layout owners requests opening (past ++ sent ∷ [])) (λ node. after_hearing node sent) nodes
        (All-weaker (StandsIn layout owners requests opening past) (λ node. StandsIn layout owners requests opening (past ++ sent ∷ []) (after_hearing node sent))
        (λ node. stands-later layout owners requests opening past sent node are_owners well_placed other begun) nodes standing.stand);
    senders = HaveSenders-kept opening nodes sent standing.senders;
    owned = All-weaker (IsOwned owners nodes) (IsOwned owners (all_hear nodes sent)) (IsOwned-kept owners nodes sent) requests standing.owned;
  }

  pub parts_at : (past : List TimedFrame) (nodes : List NodeState) (at : ℕ) → start_of layout opening ≤ at → at < end_of_cycle layout opening
      → Standing layout owners requests opening past nodes → All (OffersLeastOwn layout owners requests opening past at) nodes
  parts_at past nodes at begun within standing = grind (arith, div-eq_of_lt-le, offers_own_part)

  pub own_id : (number : ℕ) (past : List TimedFrame) (at : ℕ) (frame : DataFrame) → OffersOwn number layout owners requests opening past at frame → greatest_trigger < frame.identifier
  own_id number past at frame (inl (offers, contains)) =
      let least = All-map (λ id. 0x200 ≤ id) (λ owner. owner.id) _ (All-filter (λ owner. owner.node == number) (λ owner. 0x200 ≤ owner.id) owners are_owners.least) in
      omega (arith, All-contains (λ id. 0x200 ≤ id) (identifiers_of number owners) frame.identifier least contains)
  own_id number past at frame (inr (slot, offers, sendable)) = omega (arith, offers.identifier)

  -- where the nodes offer nothing, nothing is offered on the bus
  NothingOffered-nodes : (before : Stationed) (sofar past : List TimedFrame) (nodes : List NodeState) (low high : ℕ) → told cycle_line before sofar ≡ nodes_alone layout nodes
      → Standing layout owners requests opening past nodes → NoTrigger layout opening past → start_of layout opening ≤ low → high ≤ end_of_cycle layout opening
      → NothingOffered (offers_of cycle_line before) sofar low high → NothingOffered (offered_in bytes_of layout requests opening) past low high
  NothingOffered-nodes before sofar past nodes low high now standing none begun within nothing at frame from early offered =
      let parts = parts_at past nodes at (omega (arith, begun, from)) (omega (arith, early, within)) standing in
      let one = some_by_nodes layout owners requests opening past at nodes parts standing.senders standing.owned (none at) frame offered in
      nothing at one.0 from early (subst (λ s. IsOffered cycle_line s at one.0) (sym now) one.1)

  -- what is next among the nodes is next on the bus, and is no trigger frame
  IsNext-nodes : (before : Stationed) (sofar past : List TimedFrame) (nodes : List NodeState) (free : ℕ) (sent : TimedFrame) → told cycle_line before sofar ≡ nodes_alone layout nodes
      → Standing layout owners requests opening past nodes → NoTrigger layout opening past → start_of layout opening ≤ free
      → IsNext (offers_of cycle_line before) sofar free (end_of_cycle layout opening) sent
      → IsNext (offered_in bytes_of layout requests opening) past free (end_of_cycle layout opening) sent × (greatest_trigger < sent.frame.identifier)
  IsNext-nodes before sofar past nodes free sent now standing none begun next =
      let behind : start_of layout opening ≤ sent.start = omega (arith, begun, next.when_free) in
      let parts = parts_at past nodes sent.start behind next.within standing in
      let least = least_by_nodes layout owners requests opening past sent.start nodes parts standing.senders standing.owned (none sent.start) sent.frame
      (subst (λ s. IsOffered cycle_line s sent.start sent.frame) now next.least.offered)
      (λ other offers. next.least.least other (subst (λ s. IsOffered cycle_line s sent.start other) (sym now) offers)) in
      let own = is_own layout owners requests opening past sent.start nodes parts standing.senders standing.owned (none sent.start) sent.frame least.offered in (
        record {
          when_free = next.when_free;
          within = next.within;
          first = NothingOffered-nodes before sofar past nodes free sent.start now standing none begun (omega (arith, next.within)) next.first;
          least = least;
          whole = next.whole;
        },
        own_id own.0.number past sent.start sent.frame own.2,
      )

  -- the frames behind the trigger frames
  Follows-nodes : (before : Stationed) (sofar past : List TimedFrame) (nodes : List NodeState) (free : ℕ) (frames : List TimedFrame)
      → told cycle_line before sofar ≡ nodes_alone layout nodes → Standing layout owners requests opening past nodes → NoTrigger layout opening past → start_of layout opening ≤ free
      → Follows (offers_of cycle_line before) sofar free (end_of_cycle layout opening) frames
      → Follows (offered_in bytes_of layout requests opening) past free (end_of_cycle layout opening) frames
      × Standing layout owners requests opening (past ++ frames) (heard_by frames nodes)
  Follows-nodes before sofar past nodes free [] now standing none begun nothing = (
    NothingOffered-nodes before sofar past nodes free (end_of_cycle layout opening) now standing none begun (omega arith) nothing,
    subst (λ started. Standing layout owners requests opening started (heard_by [] nodes)) (sym (append-nil past))
        (subst (Standing layout owners requests opening past) (sym (map-same nodes)) standing),
  )
  Follows-nodes before sofar past nodes free (sent ∷ later) now standing none begun (next, follows) =
      let one = IsNext-nodes before sofar past nodes free sent now standing none begun next in
      let hears = Standing-more past nodes sent one.1 (omega (arith, begun, next.when_free)) standing in
      let told_more = fold-append cycle_line.next before sofar (sent ∷ []) ∙ ap (λ s. cycle_line.next s sent) now in
      let rest = Follows-nodes before (sofar ++ sent ∷ []) (past ++ sent ∷ []) (all_hear nodes sent) (end_of sent) later told_more hears
      (NoTrigger-more layout opening past (sent ∷ []) none) (omega (arith, begun, next.when_free)) follows in (grind (arith, append_assoc, heard-first))

-- the trigger frames of a cycle and the nodes before they are sent
abbrev pub announcing : CycleLayout → Opening → List NodeState → Stationed
announcing layout opening nodes = announced layout (start_of layout opening) (trigger_frames layout opening) nodes

-- the nodes of a bus before the trigger frames of a cycle, whose window they can hold
pub record Waiting (layout : CycleLayout) (owners : List Owner) (requests : List Request) (opening : Opening) (past : List TimedFrame) (nodes : List NodeState) : Type 0 where
  pub is_layout : IsLayout layout
  pub cycle : opening.cycle < 2 ^ 42
  pub width : width_of opening ≤ layout.window
  pub mask : opening.mask < 2 ^ layout.slots
  pub before : All (λ sent. sent.start < start_of layout opening) past
  pub are : All IsNode nodes
  pub stand : All (StandsOnBus layout owners requests opening.placed past opening.cycle) nodes
  pub senders : HaveSenders nodes opening
  pub owned : All (IsOwned owners nodes) requests

-- the trigger part lies in the cycle
pub part-within : (layout : CycleLayout) (opening : Opening) → IsLayout layout → start_of layout opening + trigger_part layout ≤ end_of_cycle layout opening
part-within layout opening is = omega (arith, add-mul opening.cycle 1 layout.cycle, is.room)

module _ (layout : CycleLayout) (owners : List Owner) (requests : List Request) (opening : Opening)
    (are_owners : AreOwners owners) (well_placed : IsWellPlaced opening.placed) (past : List TimedFrame) (nodes : List NodeState)
    (waiting : Waiting layout owners requests opening past nodes) where
  pub asynchronous : (before : List TimedFrame) (at : ℕ) (other : DataFrame) → OffersRequest layout requests opening before at other → greatest_trigger < other.identifier
  asynchronous before at other offers =
      let own = IsOwn-request layout owners requests opening before at nodes waiting.owned other offers in
      own_id layout owners requests opening are_owners well_placed own.0.number before at other own.2

  -- nodes that hear the trigger frames
  pub Standing-trigger : (sent : List TimedFrame) → map (λ one. one.frame) sent ≡ trigger_frames layout opening → All IsNode (heard_by sent nodes)
      → Standing layout owners requests opening (past ++ sent) (heard_by sent nodes)
  Standing-trigger sent is known = record {
    are = known;
    stand = All-map (StandsIn layout owners requests opening (past ++ sent)) (λ node. fold after_hearing node sent) nodes
        (All-weaker (StandsOnBus layout owners requests opening.placed past opening.cycle) (λ node. StandsIn layout owners requests opening (past ++ sent) (fold after_hearing node sent))
        (λ node. stands-trigger layout owners requests opening past sent node are_owners waiting.is_layout waiting.width waiting.mask waiting.before is) nodes waiting.stand);
    senders = HaveSenders-heard opening sent nodes waiting.senders;
    owned = All-weaker (IsOwned owners nodes) (IsOwned owners (heard_by sent nodes)) (IsOwned-heard owners sent nodes) requests waiting.owned;
  }

  can_hear : CanBeHeard layout (trigger_frames layout opening) nodes
  can_hear = grind (arith, low_ids, opens_last, frames_short)

  -- the frames of the cycle are those that are offered in it, and the nodes stand behind them
  pub Follows-cycle : (frames : List TimedFrame)
      → Follows (offers_of cycle_line (announcing layout opening nodes)) [] (start_of layout opening) (end_of_cycle layout opening) frames
      → Follows (offered_in bytes_of layout requests opening) past (start_of layout opening) (end_of_cycle layout opening) frames
      × Standing layout owners requests opening (past ++ frames) (heard_by frames nodes)
  Follows-cycle frames follows =
      let long = frames_long layout.slots opening.cycle (width_of opening) opening.mask in
      let part = part-within layout opening waiting.is_layout in
      let cut = go-first layout (start_of layout opening) (trigger_frames layout opening) nodes (announcing layout opening nodes) []
      (start_of layout opening) (end_of_cycle layout opening) frames (omega arith) (omega (arith, long, part)) can_hear refl follows in
      let left = AreLeft-all layout opening past waiting.before in
      let done : AreLeft layout opening past cut.sent [] = AreLeft-sent layout opening past (start_of layout opening) cut.sent waiting.before cut.are (omega arith) cut.at_once in
      let late : start_of layout opening ≤ free_after (start_of layout opening) cut.sent = free_after-later (start_of layout opening) cut.sent cut.at_once in
      let behind = Follows-nodes layout owners requests opening are_owners well_placed (announcing layout opening nodes) cut.sent (past ++ cut.sent) (heard_by cut.sent nodes)
      (free_after (start_of layout opening) cut.sent) cut.later cut.now (Standing-trigger cut.sent cut.are cut.known) (NoTrigger-sent layout opening past cut.sent done) late cut.follows in
      let all = Follows-left layout opening bytes_of requests asynchronous past [] (trigger_frames layout opening) (start_of layout opening) (end_of_cycle layout opening) cut.sent cut.later left
      (omega arith) (omega (arith, long)) part (frames_short layout.slots opening.cycle (width_of opening) opening.mask) cut.are cut.at_once behind.0 in (grind (arith, append-nil, append_assoc, heard-twice))

-- what the nodes know once frames were sent
pub told-heard : (frames : List TimedFrame) (before : Stationed) → (told cycle_line before frames).nodes ≡ heard_by frames before.nodes
told-heard [] before = sym (map-same before.nodes)
told-heard (sent ∷ later) before =
    told-heard later (cycle_line.next before sent) ∙ map-twice (λ node. after_hearing node sent) (λ node. fold after_hearing node later) before.nodes

-- the layout stays
pub told-layout : (frames : List TimedFrame) (before : Stationed) → (told cycle_line before frames).layout ≡ before.layout
told-layout [] before = refl
told-layout (sent ∷ later) before = told-layout later (cycle_line.next before sent)
