-- What is on a bus whose drivers do what they owe is the trace of a disturbed bus.
use Rattle.std.proofs.Common.{◌≡◌, ℕ, ◌+◌, ◌-◌, ◌*◌, ◌<◌, ◌≤◌, ◌&&◌, ◌||◌, ◌⊎◌, not, Bool, true, false, cond, leb, ltb, List, [], ◌∷◌, length, All, Contains, filter, get_or, inl, inr, Option, None, Some, IsSome, refl, sym, ap, ◌∙◌, subst, arith, add-mul}
use Rattle.std.specs.Prelude.{is_some, option_map}
use Rattle.std.proofs.Math.Nat.{div-eq_of_lt-le}
use Rattle.std.proofs.lemmas.Bool.{and_from, and_parts, cases_Bool, cases_lt, cases_order, eqb-true, le-leb, leb-true, lt-ltb, ltb-true, or_parts}
use Rattle.std.proofs.lemmas.List.Elements.{All-contains, All-contains_itself, All-filter, Contains-get_or, filter_passes}
use Rattle.stuff_bound.specs.Stuffing.{worst}
use Rattle.profile.specs.Limits.{first_identifier, least_asynchronous}
use Rattle.trigger_kind.specs.Kind.{greatest_trigger, triggers_of}
use Rattle.trigger_kind.proofs.Shared.{part-least}
use Rattle.bit_sets.specs.Sets.{has_bit, most_slots}
use Rattle.bit_sets.proofs.Shared.{has_bit-empty}
use Rattle.can_frame.specs.DataFrame.{DataFrame}
use Rattle.can_frame.specs.declared.data_frame.TimedFrame.{TimedFrame}
use Rattle.cycle_layout.specs.Layout.{CycleLayout, async_open, trigger_part}
use Rattle.trigger_codec.proofs.Shared.{low_ids}
use Rattle.requirement_table.specs.Instance.{Instance}
use Rattle.requirement_table.specs.Opening.{Opening}
use Rattle.requirement_table.specs.Table.{instance_in}
use Rattle.bus_line.specs.Trace.{end_of, started_before}
use Rattle.node_model.specs.Node.{NodeState, Opened, is_due}
use Rattle.node_model.specs.Online.{open_now}
use Rattle.node_model.specs.Window.{is_due_slot}
use Rattle.node_model.specs.Opening.{end_of_cycle, start_of}
use Rattle.node_model.specs.Offered.{HasNotStarted}
use Rattle.cycle_engine.specs.Cycle.{cycle_of}
use Rattle.cycle_engine.proofs.Shared.{Contains-filter}
use Rattle.live_node.specs.Live.{LiveView}
use Rattle.live_node.specs.Sending.{has_set, is_owed, is_ready, live_offer}
use Rattle.disturbed_runs.specs.Outages.{IsDisturbedTrace, Outage}
use Rattle.disturbed_runs.specs.Offered.{AreGuarded, IsGuardedOffer, Late, OffersSlotAgain, OffersTriggerAgain, Silent, first_from, is_silent, may_start, offered_again, triggers_from, width_with, window_from}
use Rattle.nodes_on_bus.specs.Boards.{Board, IsInCycle, IsLoadedAt, IsRequestOf, IsSlotOf, into}
use Rattle.nodes_on_bus.specs.Duties.{AreDriven, HasStarted, IsBusy, LeaveRoom, Loads, Senders, keeps_guard}
use Rattle.nodes_on_bus.proofs.Offers.{request-offered, slot-offered}

-- What a ready or owed slot says

now-open : (state : NodeState) (o : Opened) → open_now state ≡ Some o → state.opened ≡ Some o
now-open state o is = grind arith

due-parts : (state : NodeState) (o : Opened) (slot : ℕ) → state.opened ≡ Some o → is_due_slot state slot ≡ true
    → is_due state.entries o slot ≡ true
due-parts state o slot is due = grind arith

owed-due : (view : LiveView) (slot : ℕ) → is_owed view slot ≡ true → (is_due_slot view.state slot ≡ true) × (has_bit view.sent slot ≡ false)
owed-due view slot is =
    let both = and_parts (is_some (open_now view.state)) (is_due_slot view.state slot && not (has_bit view.sent slot)) is in
    let parts = and_parts (is_due_slot view.state slot) (not (has_bit view.sent slot)) both.1 in
    (parts.0, elim (cases_Bool (has_bit view.sent slot)) [ inl has ↦ absurd (grind (arith, parts.1, has)) | inr none ↦ none ])

ready-owed : (view : LiveView) (slot : ℕ) → is_ready view slot ≡ true → (is_owed view slot ≡ true) × (has_bit view.loaded slot ≡ false)
ready-owed view slot is =
    let parts = and_parts (is_owed view slot) (not (has_bit view.loaded slot) && (not view.silent || has_set view slot)) is in
    let free = (and_parts (not (has_bit view.loaded slot)) (not view.silent || has_set view slot) parts.1).0 in
    (parts.0, elim (cases_Bool (has_bit view.loaded slot)) [ inl has ↦ absurd (grind (arith, free, has)) | inr none ↦ none ])

-- Times

pub end-at : (layout : CycleLayout) (o : Opening) → end_of_cycle layout o ≡ start_of layout o + layout.cycle
end-at layout o = add-mul o.cycle 1 layout.cycle ∙ omega arith

module _ (reserve : ℕ) (late : Late) (layout : CycleLayout) (o : Opening) (narrow : width_with reserve o < layout.cycle) where
  -- the widths and lengths that a node in the cycle has
  same-cycle : (view : LiveView) (is : IsInCycle reserve layout o view) → view.state.layout.cycle ≡ layout.cycle
  same-cycle view is = ap (λ l. l.cycle) is.same_layout

  same-part : (view : LiveView) (is : IsInCycle reserve layout o view)
      → trigger_part view.state.layout + view.state.layout.turnaround ≡ trigger_part layout + layout.turnaround
  same-part view is = ap (λ (l : CycleLayout). trigger_part l + l.turnaround) is.same_layout

  -- a slot that is offered is offered behind the start of the window, for the first of the drivers
  slot-behind : (board : Board) (load slot : ℕ) (sent : TimedFrame) → slot < most_slots → sent.frame.identifier ≡ first_identifier + slot
      → IsLoadedAt reserve late layout o board load sent
      → (start_of layout o ≤ sent.start) × (window_from reserve late.least layout o ≤ sent.start) × (is_ready (board.view load) slot ≡ true)
      × (has_bit o.mask slot ≡ true)
  slot-behind board load slot sent known id is =
      let view = board.view load in
      let found = slot-offered view (into layout o board is.from) slot known is.in_cycle.waiting.least (is.offered ∙ ap Some id) in
      let one : found.it ≡ is.in_cycle.opened = grind (arith, found.is_open, is.in_cycle.is_open) in
      let width : found.it.width ≡ width_with reserve o = ap (λ (x : Opened). x.width) one ∙ is.in_cycle.width in
      let begun = found.begun in
      let starts = is.from_before in
      let cycle = same-cycle view is.in_cycle in
      let least = is.as_late.least in
      let longer = end-at layout o in
      let owed = (ready-owed view slot found.ready).0 in
      let due = due-parts view.state is.in_cycle.opened slot (now-open view.state is.in_cycle.opened is.in_cycle.is_open) (owed-due view slot owed).0 in (
        omega (arith, begun, width, cycle, narrow),
        omega (arith, begun, width, cycle, narrow, least, longer),
        found.ready,
        subst (λ m. has_bit m slot ≡ true) is.in_cycle.mask (and_parts _ _ due).0,
      )

  -- a request is offered behind the trigger part and the turnaround
  request-behind : (board : Board) (load : ℕ) (sent : TimedFrame) → least_asynchronous ≤ sent.frame.identifier
      → IsLoadedAt reserve late layout o board load sent
      → (start_of layout o + board.late o.cycle ≤ sent.start) × (async_open layout o.cycle ≤ sent.start)
  request-behind board load sent low is =
      let view = board.view load in
      let found = request-offered view (into layout o board is.from) sent.frame.identifier low is.offered in
      let begun = found.begun in
      let part = same-part view is.in_cycle in
      let some = part-least (triggers_of layout.slots) in
      let starts = is.from_before in
      (omega (arith, begun, starts, part, some), omega (arith, begun, starts, part, some))

  -- so it keeps the guard
  request-keeps : (board : Board) (load : ℕ) (sent : TimedFrame) (past : List TimedFrame) → IsRequestOf reserve late layout o board load sent
      → keeps_guard reserve late layout o past sent.start sent.frame ≡ true
  request-keeps board load sent past is =
      let behind = request-behind board load sent is.asynchronous is.loaded in
      let before = is.loaded.before in
      let from = behind.0 in
      let opens = behind.1 in
      let whole = is.whole in
      let least = is.loaded.as_late.least in
      let most = is.loaded.as_late.most in
      let longer = end-at layout o in
      let ends : sent.start + worst (length sent.frame.bytes) ≤ first_from reserve late layout o
      = omega (arith, before, from, whole, least, most, longer, narrow) in
      and_from _ _ (and_from _ _ (le-leb least_asynchronous sent.frame.identifier is.asynchronous) (le-leb (async_open layout o.cycle) sent.start (omega (arith, opens, before))))
      (and_from _ _ (lt-ltb sent.start (end_of_cycle layout o) is.loaded.in_time) (le-leb (sent.start + worst (length sent.frame.bytes)) (first_from reserve late layout o) ends))

-- the guard

pub guarded : (reserve : ℕ) (late : Late) (layout : CycleLayout) → AreGuarded reserve late layout (keeps_guard reserve late layout)
guarded reserve late layout opening past at frame asked =
    let parts = and_parts _ _ asked in
    let low = and_parts _ _ parts.0 in
    let high = and_parts _ _ parts.1 in
    record {
      identifier = leb-true least_asynchronous frame.identifier low.0;
      opened = leb-true (async_open layout opening.cycle) at low.1;
      within = ltb-true at (end_of_cycle layout opening) high.0;
      whole = leb-true (at + worst (length frame.bytes)) (first_from reserve late layout opening) high.1;
    }

module _ (reserve : ℕ) (late : Late) (silent : Silent) (sends : Instance → List ℕ) (layout : CycleLayout) (openings : List Opening)
    (senders : Senders) (loads : Loads) (outages : List Outage) (until : ℕ) (trace : List TimedFrame)
    (room : LeaveRoom reserve layout openings)
    (are : AreDriven reserve late silent sends layout openings senders loads outages until trace) where
  abbrev IsSlot : Opening → ℕ → TimedFrame → Type 0
  IsSlot o slot sent = IsSlotOf reserve late silent sends layout o (senders o.cycle slot) (loads sent) slot sent

  -- what is known of a slot's frame, in the cycle of a number
  record IsKnown (cycle slot : ℕ) (sent : TimedFrame) : Type 0 where
    pub before : loads sent ≤ sent.start
    pub ready : is_ready ((senders cycle slot).view (loads sent)) slot ≡ true
    pub flying : (at : ℕ) → loads sent < at → at ≤ sent.start → has_bit ((senders cycle slot).view at).loaded slot ≡ true

  known-slot : (o : Opening) → Contains openings o → (slot : ℕ) (sent : TimedFrame) → IsSlot o slot sent → IsKnown o.cycle slot sent
  known-slot o has slot sent is =
      let behind = slot-behind reserve late layout o (room o has) (senders o.cycle slot) (loads sent) slot sent is.known is.identifier is.loaded in
      record { before = is.loaded.before; ready = behind.2; flying = is.flying }

  -- the frame of a slot lies in its cycle
  in-cycle : (o : Opening) → Contains openings o → (slot : ℕ) (sent : TimedFrame) → IsSlot o slot sent → cycle_of layout sent ≡ o.cycle
  in-cycle o has slot sent is =
      let behind = slot-behind reserve late layout o (room o has) (senders o.cycle slot) (loads sent) slot sent is.known is.identifier is.loaded in
      let from = behind.0 in
      let before = is.loaded.before in
      let from_ : o.cycle * layout.cycle ≤ sent.start = omega (arith, from, before) in
      div-eq_of_lt-le layout.cycle from_ is.loaded.in_time

  -- two frames of a slot in one cycle are one
  no-second : (o : Opening) → Contains openings o → (slot : ℕ) (one other : TimedFrame) → slot < most_slots → Contains trace one → Contains trace other
      → one.frame.identifier ≡ first_identifier + slot → other.frame.identifier ≡ first_identifier + slot
      → cycle_of layout one ≡ cycle_of layout other
      → start_of layout o ≤ one.start → one.start < other.start → other.start < end_of_cycle layout o
      → IsKnown o.cycle slot one → IsKnown o.cycle slot other → ⊥
  no-second o has slot one other known in_one in_other id also same from before ends first second =
      let ready-one = ready-owed ((senders o.cycle slot).view (loads one)) slot first.ready in
      let ready-other = ready-owed ((senders o.cycle slot).view (loads other)) slot second.ready in
      let until_one = first.before in
      let until_other = second.before in
      elim (cases_lt one.start (loads other)) [
        | inl behind ↦
            let told = are.told o slot (loads other) has known
            (record { sent = one; among = in_one; identifier = id; from = from; before = behind }) (omega (arith, until_other, ends)) in
            let unsent = (owed-due ((senders o.cycle slot).view (loads other)) slot ready-other.0).1 in
            absurd (grind (arith, told, unsent, ready-other.1))
        | inr early ↦ elim (cases_order (loads one) (loads other)) [
          | inl equal ↦
              let twice = are.once one other in_one in_other (id ∙ sym also) same equal in
              absurd (omega (arith, twice, before))
          | inr apart ↦ elim apart [
            | inl lower ↦
                let flies = first.flying (loads other) lower (omega (arith, early)) in
                absurd (grind (arith, flies, ready-other.1))
            | inr higher ↦
                let flies = second.flying (loads one) higher (omega (arith, until_one, before)) in
                absurd (grind (arith, flies, ready-one.1))
          ]
        ]
      ]

  -- what a frame can be: a trigger frame has a lower identifier than a slot's, and a request a greater one
  trigger-id : (o : Opening) (past : List TimedFrame) (at : ℕ) (frame : DataFrame) → OffersTriggerAgain reserve silent layout o past at frame
      → frame.identifier ≤ greatest_trigger
  trigger-id o past at frame is =
      All-contains (λ (f : DataFrame). f.identifier ≤ greatest_trigger) (triggers_from reserve layout o) frame
      (low_ids layout.slots o.cycle (width_with reserve o) o.mask) is.among

  -- whoever has the identifier of a slot is its frame, in the cycle in which it starts
  its-slot : (o : Opening) (slot : ℕ) (sent : TimedFrame) → slot < most_slots → Contains trace sent → sent.frame.identifier ≡ first_identifier + slot
      → start_of layout o ≤ sent.start → sent.start < end_of_cycle layout o → (IsKnown o.cycle slot sent) × (cycle_of layout sent ≡ o.cycle)
  its-slot o slot sent known in_ id from until_ =
      let mine : cycle_of layout sent ≡ o.cycle = div-eq_of_lt-le layout.cycle from until_ in
      let found = are.each sent in_ in
      elim found.2 [
        | inl trigger ↦
            let low = trigger-id found.0 (started_before sent.start trace) sent.start sent.frame trigger in
            absurd (omega (arith, low, id))
        | inr loaded ↦ elim loaded [
          | inl request ↦
              let high = request.1.asynchronous in
              absurd (omega (arith, high, id, known))
          | inr slots ↦
              let other = slots.1 in
              let same : slots.0 ≡ slot = (let id_ = other.identifier in omega (arith, id, id_)) in
              let cycle = in-cycle found.0 found.1 slots.0 sent other in
              let facts = known-slot found.0 found.1 slots.0 sent other in
              (subst (λ s. IsKnown o.cycle s sent) same (subst (λ c. IsKnown c slots.0 sent) (sym cycle ∙ mine) facts), mine)
        ]
      ]

  -- no frame of the slot has started in the cycle before
  unsent : (o : Opening) → Contains openings o → (slot : ℕ) (sent : TimedFrame) → Contains trace sent → IsSlot o slot sent
      → HasNotStarted layout o (first_identifier + slot) (started_before sent.start trace)
  unsent o has slot sent in_ is = λ k d within id.
      let other = get_or (started_before sent.start trace) k d in
      let among = All-filter (λ (s : TimedFrame). ltb s.start sent.start) (Contains trace) trace (All-contains_itself trace) k d within in
      let earlier = filter_passes (λ (s : TimedFrame). ltb s.start sent.start) trace k d within in
      let before = ltb-true other.start sent.start earlier in
      elim (cases_lt other.start (start_of layout o)) [
        | inl done_ ↦ done_
        | inr from ↦
            let ends = is.loaded.in_time in
            let there = its-slot o slot other is.known among id from (omega (arith, before, ends)) in
            let mine = known-slot o has slot sent is in
            absurd (no-second o has slot other sent is.known among in_ id is.identifier (there.1 ∙ sym (in-cycle o has slot sent is)) from before ends there.0 mine)
      ]

  -- each frame is one that may start
  allowed : (sent : TimedFrame) → Contains trace sent
      → may_start reserve late silent sends layout (keeps_guard reserve late layout) openings (started_before sent.start trace) sent.start sent.frame
  allowed sent in_ =
      let found = are.each sent in_ in (
        found.0,
        found.1,
        elim found.2 [
          | inl trigger ↦ inl trigger
          | inr loaded ↦ elim loaded [
            | inl request ↦ inr (inl (request-keeps reserve late layout found.0 (room found.0 found.1) request.0 (loads sent) sent (started_before sent.start trace) request.1))
            | inr slots ↦
                let is = slots.1 in
                let behind = slot-behind reserve late layout found.0 (room found.0 found.1) (senders found.0.cycle slots.0) (loads sent) slots.0 sent is.known is.identifier is.loaded in
                let before = is.loaded.before in
                let from = behind.0 in
                let window = behind.1 in
                inr (inr (
                  slots.0,
                  record {
                    begun = omega (arith, from, before);
                    late_enough = omega (arith, window, before);
                    in_cycle = is.loaded.in_time;
                    known = is.known;
                    flagged = behind.3;
                    loud = is.loud;
                    unsent = unsent found.0 found.1 slots.0 sent in_ is;
                    identifier = is.identifier;
                    bytes = is.carries;
                  },
                ))
          ]
        ],
      )

  -- a slot that is unsent has not started
  not-started : (o : Opening) (slot at : ℕ) → HasNotStarted layout o (first_identifier + slot) (started_before at trace)
      → HasStarted layout o slot trace at → ⊥
  not-started o slot at fresh started =
      let before = started.before in
      let among : Contains (started_before at trace) started.sent
      = Contains-filter (λ (s : TimedFrame). ltb s.start at) trace started.sent started.among (lt-ltb started.sent.start at before) in
      let early = All-contains (λ (s : TimedFrame). s.frame.identifier ≡ first_identifier + slot → s.start < start_of layout o) (started_before at trace) started.sent
      fresh among started.identifier in
      let from = started.from in
      omega (arith, early, from)

  -- a slot that is offered without fail is owed
  owed : (o : Opening) → Contains openings o → (slot at : ℕ) (frame : DataFrame)
      → OffersSlotAgain reserve late.most silent sends layout o (started_before at trace) at frame slot
      → (IsInCycle reserve layout o ((senders o.cycle slot).view at)) × (is_owed ((senders o.cycle slot).view at) slot ≡ true)
  owed o has slot at frame is =
      let view = (senders o.cycle slot).view at in
      let here = are.attended o slot at has is.known is.flagged is.loud is.late_enough is.in_cycle in
      let it = here.0 in
      let opened = it.opened in
      let flag : has_bit opened.mask slot ≡ true = subst (λ m. has_bit m slot ≡ true) (sym it.mask) is.flagged in
      let heard : has_bit opened.heard slot ≡ false = has_bit-empty opened.heard slot it.unheard in
      let instance : is_some (instance_in view.state.entries slot opened.cycle) ≡ true
      = subst (λ c. is_some (instance_in view.state.entries slot c) ≡ true) (sym it.cycle) here.1 in
      let due : is_due view.state.entries opened slot ≡ true = and_from _ _ flag (and_from _ _ instance (grind (arith, heard))) in
      let not_sent : has_bit view.sent slot ≡ false = elim (cases_Bool (has_bit view.sent slot)) [
        | inl told ↦ absurd (not-started o slot at is.unsent (are.told_truly o slot at has is.known it told))
        | inr none ↦ none
      ] in
      (it, owes view.state slot opened (has_bit view.sent slot) it.is_open due not_sent)
    where
      owes : (state : NodeState) (slot : ℕ) (opened : Opened) (sent : Bool) → open_now state ≡ Some opened → is_due state.entries opened slot ≡ true → sent ≡ false
          → (is_some (open_now state) && (is_due_slot state slot && not sent)) ≡ true
      owes state slot opened sent is_open due not_sent = grind (arith, now-open)

  busy : (at : ℕ) (frame : DataFrame) → at < until → offered_again reserve late silent sends layout openings (started_before at trace) at frame → IsBusy outages trace at
  busy at frame before is = elim is.2 [
    | inl trigger ↦ are.busy_triggers is.0 at frame is.1 before trigger.0 trigger.1
    | inr slots ↦
        let it = owed is.0 is.1 slots.0 at frame slots.1 in
        are.busy_slots is.0 slots.0 at frame.bytes is.1 slots.1.known slots.1.late_enough slots.1.bytes slots.2
        slots.1.loud (not-started is.0 slots.0 at slots.1.unsent) it.0 it.1
  ]

  pub run : IsDisturbedTrace (may_start reserve late silent sends layout (keeps_guard reserve late layout) openings)
      (offered_again reserve late silent sends layout openings) outages until trace
  run = record {
    ordered = are.ordered;
    within = are.within;
    allowed = λ k d within. allowed (get_or trace k d) (Contains-get_or trace k d within);
    busy = busy;
  }
