-- A cycle of a bus whose nodes take requests while they run and send bytes of their users: its frames are those that are
-- offered in it.
use Rattle.std.proofs.Common.{◌≡◌, ℕ, zero, suc, ◌+◌, ◌*◌, ◌^◌, ◌<◌, ◌≤◌, true, List, [], ◌∷◌, ◌++◌, length, drop, map, All, Contains, Option, None, Some, inl, inr, refl, sym, ap, ◌∙◌, subst, arith, append_assoc, append-nil}
use Rattle.std.specs.Prelude.{fold, is_some, slice_get}
use Rattle.std.proofs.lemmas.List.Elements.{All-cons, All-contains, All-head, All-tail, All-weaker}
use Rattle.profile.specs.Limits.{first_identifier}
use Rattle.can_frame.specs.DataFrame.{DataFrame}
use Rattle.can_frame.specs.declared.data_frame.TimedFrame.{TimedFrame}
use Rattle.cycle_layout.specs.Layout.{CycleLayout, IsLayout, trigger_part}
use Rattle.trigger_kind.specs.Kind.{greatest_trigger}
use Rattle.requirement_table.specs.Instance.{Instance, bytes_of}
use Rattle.requirement_table.specs.Opening.{Opening, width_of}
use Rattle.requirement_table.specs.Table.{IsWellPlaced}
use Rattle.async_window.specs.declared.request.Owner.{Owner}
use Rattle.async_window.specs.declared.request.Request.{Request}
use Rattle.async_window.specs.Owners.{AreOwners}
use Rattle.async_window.specs.Mailbox.{mail_after, unsent_of}
use Rattle.async_window.specs.Online.{WereRequests, arrived_by, forgotten}
use Rattle.async_window.specs.Waiting.{frames_with, requests_of}
use Rattle.async_window.proofs.Shared.{InOrder, some-left-over, unsent_of-forgotten, were-later, were-more}
use Rattle.bus_line.specs.Trace.{Follows, IsNext, NothingOffered, end_of, free_after}
use Rattle.node_model.specs.Opening.{end_of_cycle, start_of}
use Rattle.node_model.specs.Node.{IsNode, NodeState, identifiers_of, node_offer}
use Rattle.node_model.specs.Offered.{OffersRequest, trigger_frames}
use Rattle.node_model.specs.Online.{serving}
use Rattle.node_model.specs.Own.{OffersLeastOwn, StandsIn, StandsOnBus}
use Rattle.node_model.proofs.Shared.{offered-mail}
use Rattle.can_frame.specs.Wire.{wire_length}
use Rattle.requirement_table.specs.declared.entries.Order.{Order}
use Rattle.requirement_table.specs.declared.entries.Placed.{Placed}
use Rattle.trigger_codec.specs.Bytes.{triggers_with}
use Rattle.cycle_engine.specs.Cycle.{AreAtOnce}
use Rattle.cycle_engine.specs.Nodes.{IsBefore, IsBus, heard_by, opening_of}
use Rattle.cycle_engine.specs.Offered.{offered_in}
use Rattle.cycle_engine.specs.Stations.{all_hear}
use Rattle.cycle_engine.specs.LiveBus.{IsTriggered, OffersLive, live_offers}
use Rattle.cycle_engine.proofs.Belongs.{IsOwn-request, known-senders}
use Rattle.cycle_engine.proofs.Announced.{heard-twice}
use Rattle.cycle_engine.proofs.TriggerFrames.{AreLeft, AreLeft-all, AreLeft-sent, AtOnce, Follows-left, NoTrigger, NoTrigger-more, NoTrigger-sent, frames_long, frames_short, free_after-later, low_ids}
use Rattle.cycle_engine.proofs.Along.{Standing, Standing-more, Standing-trigger, Waiting, asynchronous, own_id, part-within, parts_at}
use Rattle.cycle_engine.proofs.LiveBus.{known_mail, least_is_live, live_is_offered, offered_is_live}

drop-front : (base front : List TimedFrame) → drop (length base) (base ++ front) ≡ front
drop-front [] front = refl
drop-front (one ∷ base) front = drop-front base front

first-forgotten : (requests : List Request) → is_some (slice_get (map forgotten requests) 0) ≡ is_some (slice_get requests 0)
first-forgotten [] = refl
first-forgotten (request ∷ requests) = refl

module _ (sends : Instance → List ℕ) (layout : CycleLayout) (owners : List Owner) (requests : List Request) (opening : Opening)
    (are : AreOwners owners) (order : InOrder requests) (well_placed : IsWellPlaced opening.placed)
    (base : List TimedFrame) (nodes : List NodeState) where
  -- what the nodes know behind some frames
  abbrev now : List TimedFrame → List NodeState
  now front = heard_by front nodes

  -- the nodes behind the frames `front`, from a time on
  pub record Running (front : List TimedFrame) (free : ℕ) : Type 0 where
    pub standing : Standing layout owners requests opening (base ++ front) (now front)
    pub none : NoTrigger layout opening (base ++ front)
    pub begun : start_of layout opening ≤ free
    pub were : WereRequests (arrived_by free requests) (base ++ front)

  module _ (front : List TimedFrame) (free : ℕ) (running : Running front free) (at : ℕ) (late : free ≤ at) (early : at < end_of_cycle layout opening) where
    parts : All (OffersLeastOwn layout owners requests opening (base ++ front) at) (now front)
    parts = parts_at layout owners requests opening are well_placed (base ++ front) (now front) at (omega (arith, running.begun)) early running.standing

    were_now : WereRequests (arrived_by at requests) (base ++ front)
    were_now = were-later free at late requests (base ++ front) running.were

    heard : heard_by (drop (length base) (base ++ front)) nodes ≡ now front
    heard = ap (λ frames. heard_by frames nodes) (drop-front base front)

    is_live : (frame : DataFrame) → live_offers sends owners requests opening base nodes (base ++ front) at frame
        → OffersLive sends owners requests opening (now front) (base ++ front) at frame
    is_live frame offers = subst (λ ns. OffersLive sends owners requests opening ns (base ++ front) at frame) heard offers

    live_is : (frame : DataFrame) → OffersLive sends owners requests opening (now front) (base ++ front) at frame
        → live_offers sends owners requests opening base nodes (base ++ front) at frame
    live_is frame offers = subst (λ ns. OffersLive sends owners requests opening ns (base ++ front) at frame) (sym heard) offers

    some_live : (frame : DataFrame) → offered_in sends layout requests opening (base ++ front) at frame
        → (one : DataFrame) × OffersLive sends owners requests opening (now front) (base ++ front) at one × (one.identifier ≤ frame.identifier)
    some_live frame offers =
        offered_is_live sends layout owners requests opening are order (base ++ front) at (now front) running.standing.stand parts were_now
        running.standing.senders running.standing.owned (running.none at) frame offers

    live_some : (frame : DataFrame) → OffersLive sends owners requests opening (now front) (base ++ front) at frame
        → offered_in sends layout requests opening (base ++ front) at frame
    live_some frame offers =
        live_is_offered sends layout owners requests opening are order (base ++ front) at (now front) running.standing.stand parts were_now
        running.standing.senders running.standing.owned (running.none at) frame offers

    -- what is sent is no trigger frame
    no_trigger_frame : (frame : DataFrame) → offered_in sends layout requests opening (base ++ front) at frame → greatest_trigger < frame.identifier
    no_trigger_frame frame (inl trigger) = absurd (running.none at frame trigger)
    no_trigger_frame frame (inr (inl request)) =
        let own = IsOwn-request layout owners requests opening (base ++ front) at (now front) running.standing.owned frame request in
        own_id layout owners requests opening are well_placed own.0.number (base ++ front) at frame own.2
    no_trigger_frame frame (inr (inr (slot, offers))) = omega (arith, offers.identifier)

    -- a request that is sent was one of those that had arrived
    was_request : (frame : DataFrame) → OffersLive sends owners requests opening (now front) (base ++ front) at frame → 0x200 ≤ frame.identifier
        → frames_with (base ++ front) frame.identifier < length (requests_of (arrived_by at requests) frame.identifier)
    was_request frame live high =
        let given : List Request = arrived_by at requests in
        let ids : List ℕ = identifiers_of live.node.number owners in
        let mail = known_mail sends layout owners requests opening are order (base ++ front) at (now front) running.standing.stand parts were_now
        running.standing.senders running.standing.owned (running.none at) live.node in
        let some = offered-mail (serving owners given (base ++ front) live.node) at frame.identifier mail live.offered high in
        some-left-over given (base ++ front) frame.identifier ids
        (sym (first-forgotten (unsent_of (mail_after ids given (base ++ front)) frame.identifier))
        ∙ subst (λ xs. is_some (slice_get xs 0) ≡ true) (unsent_of-forgotten (mail_after ids given (base ++ front)) frame.identifier) some)

  nothing-live : (front : List TimedFrame) (free low high : ℕ) → Running front free → free ≤ low → high ≤ end_of_cycle layout opening
      → NothingOffered (live_offers sends owners requests opening base nodes) (base ++ front) low high
      → NothingOffered (offered_in sends layout requests opening) (base ++ front) low high
  nothing-live front free low high running late early nothing at frame from before offered =
      let one = some_live front free running at (omega (arith, late, from)) (omega (arith, before, early)) frame offered in
      nothing at one.0 from before (live_is front free running at (omega (arith, late, from)) (omega (arith, before, early)) one.0 one.1)

  -- one frame, and what the nodes know behind it
  next-live : (front : List TimedFrame) (free : ℕ) (sent : TimedFrame) → Running front free
      → IsNext (live_offers sends owners requests opening base nodes) (base ++ front) free (end_of_cycle layout opening) sent
      → IsNext (offered_in sends layout requests opening) (base ++ front) free (end_of_cycle layout opening) sent
      × Running (front ++ sent ∷ []) (end_of sent)
  next-live front free sent running next =
      let live = is_live front free running sent.start next.when_free next.within sent.frame next.least.offered in
      let offered = live_some front free running sent.start next.when_free next.within sent.frame live in
      let other = no_trigger_frame front free running sent.start next.when_free next.within sent.frame offered in
      let begun : start_of layout opening ≤ sent.start = omega (arith, running.begun, next.when_free) in
      let behind : (base ++ front) ++ sent ∷ [] ≡ base ++ (front ++ sent ∷ []) = append_assoc base front (sent ∷ []) in
      let hears : all_hear (now front) sent ≡ now (front ++ sent ∷ []) = heard-twice front (sent ∷ []) nodes in (
        record {
          when_free = next.when_free;
          within = next.within;
          first = nothing-live front free free sent.start running (omega arith) (omega (arith, next.within)) next.first;
          least = record {
            offered = offered;
            least = λ frame offers.
                let one = some_live front free running sent.start next.when_free next.within frame offers in
                let low = next.least.least one.0 (live_is front free running sent.start next.when_free next.within one.0 one.1) in
                omega (arith, low, one.2);
          };
          whole = next.whole;
        },
        record {
          standing = subst (λ past. Standing layout owners requests opening past (now (front ++ sent ∷ []))) behind
              (subst (λ ns. Standing layout owners requests opening ((base ++ front) ++ sent ∷ []) ns) hears
              (Standing-more layout owners requests opening are well_placed (base ++ front) (now front) sent other begun running.standing));
          none = subst (NoTrigger layout opening) behind (NoTrigger-more layout opening (base ++ front) (sent ∷ []) running.none);
          begun = omega (arith, begun);
          were = subst (λ past. WereRequests (arrived_by (end_of sent) requests) past) behind
              (were-later sent.start (end_of sent) (omega arith) requests ((base ++ front) ++ sent ∷ [])
              (were-more (arrived_by sent.start requests) (base ++ front) sent
              (were-later free sent.start next.when_free requests (base ++ front) running.were)
              (was_request front free running sent.start next.when_free next.within sent.frame live)));
        },
      )

  -- what arbitration decides between the nodes is what is offered in the cycle
  pub Follows-live : (front : List TimedFrame) (free : ℕ) (frames : List TimedFrame) → Running front free
      → Follows (live_offers sends owners requests opening base nodes) (base ++ front) free (end_of_cycle layout opening) frames
      → Follows (offered_in sends layout requests opening) (base ++ front) free (end_of_cycle layout opening) frames
      × Running (front ++ frames) (free_after free frames)
  Follows-live front free [] running nothing = (
    nothing-live front free free (end_of_cycle layout opening) running (omega arith) (omega arith) nothing,
    subst (λ xs. Running xs free) (sym (append-nil front)) running,
  )
  Follows-live front free (sent ∷ later) running (next, follows) =
      let one = next-live front free sent running next in
      let behind : (base ++ front) ++ sent ∷ [] ≡ base ++ (front ++ sent ∷ []) = append_assoc base front (sent ∷ []) in
      let rest = Follows-live (front ++ sent ∷ []) (end_of sent) later one.1
      (subst (λ past. Follows (live_offers sends owners requests opening base nodes) past (end_of sent) (end_of_cycle layout opening) later) behind follows) in (
        (
          one.0,
          subst (λ past. Follows (offered_in sends layout requests opening) past (end_of sent) (end_of_cycle layout opening) later) (sym behind) rest.0,
        ),
        subst (λ xs. Running xs (free_after (end_of sent) later)) (append_assoc front (sent ∷ []) later) rest.1,
      )

-- a whole cycle: its trigger frames, the first at its start and each other one at once behind it, and what the nodes send
module _ (sends : Instance → List ℕ) (layout : CycleLayout) (owners : List Owner) (requests : List Request) (opening : Opening)
    (are : AreOwners owners) (order : InOrder requests) (well_placed : IsWellPlaced opening.placed)
    (past : List TimedFrame) (nodes : List NodeState) (waiting : Waiting layout owners requests opening past nodes)
    (sent later : List TimedFrame) (is : map (λ one. one.frame) sent ≡ trigger_frames layout opening)
    (at_once : AtOnce (start_of layout opening) sent) (known : All IsNode (heard_by sent nodes))
    (were : WereRequests (arrived_by (free_after (start_of layout opening) sent) requests) (past ++ sent))
    (follows : Follows (live_offers sends owners requests opening (past ++ sent) (heard_by sent nodes)) (past ++ sent)
    (free_after (start_of layout opening) sent) (end_of_cycle layout opening) later) where
  done : AreLeft layout opening past sent []
  done = AreLeft-sent layout opening past (start_of layout opening) sent waiting.before is (omega arith) at_once

  started : (past ++ sent) ++ [] ≡ past ++ sent
  started = append-nil (past ++ sent)

  starting : Running sends layout owners requests opening are order well_placed (past ++ sent) (heard_by sent nodes) [] (free_after (start_of layout opening) sent)
  starting = record {
    standing = subst (λ xs. Standing layout owners requests opening xs (heard_by [] (heard_by sent nodes))) (sym started)
        (subst (Standing layout owners requests opening (past ++ sent)) (sym (heard-twice sent [] nodes ∙ ap (λ xs. heard_by xs nodes) (append-nil sent)))
        (Standing-trigger layout owners requests opening are well_placed past nodes waiting sent is known));
    none = subst (NoTrigger layout opening) (sym started) (NoTrigger-sent layout opening past sent done);
    begun = free_after-later (start_of layout opening) sent at_once;
    were = subst (WereRequests (arrived_by (free_after (start_of layout opening) sent) requests)) (sym started) were;
  }

  both : Follows (offered_in sends layout requests opening) ((past ++ sent) ++ []) (free_after (start_of layout opening) sent) (end_of_cycle layout opening) later
      × Running sends layout owners requests opening are order well_placed (past ++ sent) (heard_by sent nodes) later
      (free_after (free_after (start_of layout opening) sent) later)
  both =
      Follows-live sends layout owners requests opening are order well_placed (past ++ sent) (heard_by sent nodes) []
      (free_after (start_of layout opening) sent) later starting
      (subst (λ xs. Follows (live_offers sends owners requests opening (past ++ sent) (heard_by sent nodes)) xs
      (free_after (start_of layout opening) sent) (end_of_cycle layout opening) later) (sym started) follows)

  pub live-cycle : Follows (offered_in sends layout requests opening) past (start_of layout opening) (end_of_cycle layout opening) (sent ++ later)
  live-cycle =
      let long = frames_long layout.slots opening.cycle (width_of opening) opening.mask in
      let part = part-within layout opening waiting.is_layout in
      let left = AreLeft-all layout opening past waiting.before in
      subst (λ xs. Follows (offered_in sends layout requests opening) xs (start_of layout opening) (end_of_cycle layout opening) (sent ++ later)) (append-nil past)
      (Follows-left layout opening sends requests (asynchronous layout owners requests opening are well_placed past nodes waiting) past [] (trigger_frames layout opening)
      (start_of layout opening) (end_of_cycle layout opening) sent later left (omega arith) (omega (arith, long)) part
      (frames_short layout.slots opening.cycle (width_of opening) opening.mask) is at_once
      (subst (λ xs. Follows (offered_in sends layout requests opening) xs (free_after (start_of layout opening) sent) (end_of_cycle layout opening) later) started both.0))

  -- the nodes behind the cycle, and the requests that were sent
  pub behind-cycle : Standing layout owners requests opening (past ++ (sent ++ later)) (heard_by (sent ++ later) nodes)
  behind-cycle =
      subst (λ xs. Standing layout owners requests opening xs (heard_by (sent ++ later) nodes)) (append_assoc past sent later)
      (subst (Standing layout owners requests opening ((past ++ sent) ++ later)) (heard-twice sent later nodes) both.1.standing)

  pub were-behind : WereRequests (arrived_by (free_after (free_after (start_of layout opening) sent) later) requests) (past ++ (sent ++ later))
  were-behind = subst (λ xs. WereRequests (arrived_by (free_after (free_after (start_of layout opening) sent) later) requests) xs) (append_assoc past sent later) both.1.were

at_once-whole : (free : ℕ) (sent : List TimedFrame) → AreAtOnce free sent → All (λ one. one.len ≡ wire_length one.frame) sent → AtOnce free sent
at_once-whole free [] at_once whole = tt
at_once-whole free (one ∷ later) (starts, rest) whole = (
  record { start = starts; whole = All-head (λ s. s.len ≡ wire_length s.frame) one later whole },
  at_once-whole (end_of one) later rest (All-tail (λ s. s.len ≡ wire_length s.frame) one later whole),
)

-- trigger frames are no requests
were-low : (requests : List Request) (past sent : List TimedFrame) → All (λ one. one.frame.identifier ≤ greatest_trigger) sent
    → WereRequests requests past → WereRequests requests (past ++ sent)
were-low requests past [] low were = subst (WereRequests requests) (sym (append-nil past)) were
were-low requests past (one ∷ sent) low were =
    let here : one.frame.identifier ≤ greatest_trigger = All-head (λ (s : TimedFrame). s.frame.identifier ≤ greatest_trigger) one sent low in
    subst (WereRequests requests) (append_assoc past (one ∷ []) sent)
    (were-low requests (past ++ one ∷ []) sent (All-tail (λ (s : TimedFrame). s.frame.identifier ≤ greatest_trigger) one sent low)
    (were-more requests past one were (λ high. absurd (omega arith))))

low-frames : (sent : List TimedFrame) (frames : List DataFrame) → map (λ one. one.frame) sent ≡ frames
    → All (λ (f : DataFrame). f.identifier ≤ greatest_trigger) frames → All (λ one. one.frame.identifier ≤ greatest_trigger) sent
low-frames [] frames is low = λ k d within. absurd (omega arith)
low-frames (one ∷ sent) [] is low = let none : ⊥ = cc (is) in absurd none
low-frames (one ∷ sent) (frame ∷ frames) is low =
    let here : one.frame ≡ frame = cc (is) in
    let rest : map (λ (s : TimedFrame). s.frame) sent ≡ frames = cc (is) in
    All-cons (λ (s : TimedFrame). s.frame.identifier ≤ greatest_trigger) one sent
    (subst (λ (f : DataFrame). f.identifier ≤ greatest_trigger) (sym here) (All-head (λ (f : DataFrame). f.identifier ≤ greatest_trigger) frame frames low))
    (low-frames sent frames rest (All-tail (λ (f : DataFrame). f.identifier ≤ greatest_trigger) frame frames low))

module _ (sends : Instance → List ℕ) (layout : CycleLayout) (owners : List Owner) (requests : List Request)
    (placed : List Placed) (past : List TimedFrame) (order : Order) (nodes : List NodeState) (sent later : List TimedFrame)
    (known : IsLayout layout) (sorted : InOrder requests) (are : All IsNode nodes) (before : IsBefore layout owners requests placed past order nodes)
    (cycle : order.cycle < 2 ^ 42) (width : order.l ≤ layout.window) (mask : order.mask < 2 ^ layout.slots) (triggered : IsTriggered layout order nodes sent)
    (were : WereRequests (arrived_by (order.cycle * layout.cycle) requests) past)
    (follows : Follows (live_offers sends owners requests (opening_of order placed) (past ++ sent) (heard_by sent nodes))
    (past ++ sent) (free_after (order.cycle * layout.cycle) sent) ((order.cycle + 1) * layout.cycle) later) where
  opening : Opening
  opening = opening_of order placed

  is_width : width_of (opening_of order placed) ≡ order.l
  is_width = sym before.fits.width

  frames : map (λ one. one.frame) sent ≡ trigger_frames layout (opening_of order placed)
  frames = triggered.are ∙ ap (λ l. triggers_with layout.slots order.cycle l order.mask) (sym is_width)

  waiting : Waiting layout owners requests (opening_of order placed) past nodes
  waiting = record {
    is_layout = known;
    cycle = cycle;
    width = subst (λ l. l ≤ layout.window) (sym is_width) width;
    mask = mask;
    before = before.before;
    are = are;
    stand = before.bus.stand;
    senders = known-senders layout owners requests past order.cycle (opening_of order placed) nodes before.bus.well_placed before.bus.stand before.fits.present;
    owned = before.bus.owned;
  }

  at_once : AtOnce (order.cycle * layout.cycle) sent
  at_once = at_once-whole (order.cycle * layout.cycle) sent triggered.at_once triggered.whole

  were-sent : WereRequests (arrived_by (free_after (order.cycle * layout.cycle) sent) requests) (past ++ sent)
  were-sent =
      were-later (order.cycle * layout.cycle) (free_after (order.cycle * layout.cycle) sent) (free_after-later (order.cycle * layout.cycle) sent at_once)
      requests (past ++ sent)
      (were-low (arrived_by (order.cycle * layout.cycle) requests) past sent
      (low-frames sent (triggers_with layout.slots order.cycle order.l order.mask) triggered.are (low_ids layout.slots order.cycle order.l order.mask)) were)

  pub live-order : Follows (offered_in sends layout requests (opening_of order placed)) past
      (order.cycle * layout.cycle) ((order.cycle + 1) * layout.cycle) (sent ++ later)
  live-order =
      live-cycle sends layout owners requests (opening_of order placed) before.bus.are_owners sorted before.bus.well_placed past nodes waiting sent later frames
      at_once triggered.known were-sent follows

  behind : Standing layout owners requests (opening_of order placed) (past ++ (sent ++ later)) (heard_by (sent ++ later) nodes)
  behind =
      behind-cycle sends layout owners requests (opening_of order placed) before.bus.are_owners sorted before.bus.well_placed past nodes waiting sent later frames
      at_once triggered.known were-sent follows

  pub live-bus : IsBus layout owners requests placed (past ++ (sent ++ later)) (order.cycle + 1) (heard_by (sent ++ later) nodes)
  live-bus = record {
    well_placed = before.bus.well_placed;
    are_owners = before.bus.are_owners;
    stand = All-weaker (StandsIn layout owners requests (opening_of order placed) (past ++ (sent ++ later)))
        (StandsOnBus layout owners requests placed (past ++ (sent ++ later)) (order.cycle + 1)) (λ node stands. stands.stands)
        (heard_by (sent ++ later) nodes) behind.stand;
    owned = behind.owned;
  }

  pub live-nodes : All IsNode (heard_by (sent ++ later) nodes)
  live-nodes = behind.are

  pub live-were : WereRequests (arrived_by (free_after (free_after (order.cycle * layout.cycle) sent) later) requests) (past ++ (sent ++ later))
  live-were =
      were-behind sends layout owners requests (opening_of order placed) before.bus.are_owners sorted before.bus.well_placed past nodes waiting sent later frames
      at_once triggered.known were-sent follows
