-- A run on a disturbed bus is kept.
use Rattle.std.proofs.Common.{◌≡◌, ◌≢◌, ℕ, zero, suc, ◌+◌, ◌*◌, ◌<◌, ◌≤◌, ◌&&◌, not, Bool, true, eqb, leb, List, [], ◌∷◌, ◌++◌, All, AllPairs, Contains, get_or, inl, inr, Option, None, Some, IsSome, sym, ap, ◌∙◌, subst, arith, add-mul, zero-mul, append_assoc}
use Rattle.std.specs.Prelude.{option_map, IfSome}
use Rattle.std.proofs.Math.Nat.{div-eq_of_lt-le, div-lt_iff_lt-mul}
use Rattle.std.proofs.lemmas.Nat.{div-add-mod'}
use Rattle.std.proofs.lemmas.Bool.{and_from, and_parts, cases_lt, eq-eqb, eqb-true, le-leb, leb-true}
use Rattle.std.proofs.lemmas.List.Elements.{All-contains, All-cons, All-nil, Contains-get_or}
use Rattle.profile.specs.Limits.{first_identifier, least_asynchronous}
use Rattle.bit_sets.specs.Sets.{has_bit, most_slots}
use Rattle.can_frame.specs.Wire.{wire_length}
use Rattle.can_frame.specs.declared.data_frame.TimedFrame.{TimedFrame}
use Rattle.can_frame.proofs.Shared.{wire-most}
use Rattle.cycle_layout.specs.Layout.{CycleLayout, async_open}
use Rattle.trigger_codec.proofs.Shared.{low_ids, rising}
use Rattle.requirement_table.specs.declared.entries.Placed.{Placed}
use Rattle.requirement_table.specs.Instance.{Exists, Instance, IsLastCycle, MaySend, release_of}
use Rattle.requirement_table.specs.Opening.{Opening, width_of}
use Rattle.requirement_table.specs.Flags.{IsFlaggedOnce}
use Rattle.requirement_table.specs.Table.{IsInRange, instance_in}
use Rattle.requirement_table.proofs.Shared.{instance_in-found, instance_in-sound}
use Rattle.planner_policies.specs.Plan.{Planning, flags_of, mask_at}
use Rattle.change_protocol.specs.Applied.{without_end}
use Rattle.bus_line.specs.Trace.{end_of, started_before}
use Rattle.node_model.specs.Opening.{end_of_cycle, start_of}
use Rattle.node_model.specs.Offered.{bytes_sent}
use Rattle.master_core.specs.declared.event.Event.{Event}
use Rattle.master_core.specs.declared.event.Event.TheVariants.{Submit, Look, Open}
use Rattle.master_core.specs.History.{IsLegal, next_of, placed_of, plan_of}
use Rattle.master_core.specs.Openings.{openings_after, openings_of}
use Rattle.cycle_engine.specs.Cycle.{FitsWindow, cycle_of}
use Rattle.cycle_engine.specs.Offered.{SendsWhole}
use Rattle.cycle_engine.proofs.Shared.{same_by_number}
use Rattle.kept_run.specs.Setting.{IsSetting, Setting}
use Rattle.kept_run.specs.Served.{ForgetsEnds, NoStrangers}
use Rattle.kept_run.proofs.Shared.{AreOpenedBy, legal-parts, mask-planned, mask-sendable, opened-fits, opened-legal, place-of, planned_once}
use Rattle.disturbed_runs.specs.Outages.{Outage, under_way}
use Rattle.disturbed_runs.specs.Offered.{AreGuarded, Asks, IsDisturbedRun, Late, Silent, first_from, is_silent, may_start_in, triggers_from}
use Rattle.disturbed_runs.specs.Budget.{IsReserved, IsWithinBudget}
use Rattle.disturbed_runs.specs.Kept.{AllGuardedAgain, HasBudget, IsCycleKept, IsLoud, IsServedAgain, IsTriggerHeard, KeepsBudget, KeptAgain, KeptButForBad}
use Rattle.disturbed_runs.proofs.Cycle.{offered-there, slot-sent, some-long, twice, window-from_begin}
use Rattle.disturbed_runs.proofs.Left.{lost-same}
use Rattle.disturbed_runs.proofs.One.{cycle-at, cycle-kept, from-cycle}
use Rattle.disturbed_runs.proofs.Lists.{filter-once}

-- Each opening of a legal history fits the window that is planned

-- a cycle to which nothing is left keeps its budget, if outages alone do
pub clean-budget : (reserve : ℕ) (late : Late) (silent : Silent) (layout : CycleLayout) (outages : List Outage) (trace : List TimedFrame) (o : Opening)
    → start_of layout o ≤ first_from reserve late layout o
    → ((s : TimedFrame) → Contains trace s → s.start < start_of layout o → end_of s ≤ start_of layout o)
    → IsWithinBudget layout reserve late silent outages o → KeepsBudget layout reserve late silent outages trace o
clean-budget reserve late silent layout outages trace o order ended is = record {
  triggers = (let same = lost-same (start_of layout o) (async_open layout o.cycle) (start_of layout o) outages trace (omega arith) ended in omega (arith, same, is.triggers));
  window = (let same = lost-same (first_from reserve late layout o) (end_of_cycle layout o) (start_of layout o) outages trace order ended in omega (arith, same, is.window));
  in_order = is.in_order;
}

module _ (setting : Setting) (known : IsSetting setting) where
  fits-after : (later before : List Event) → IsLegal setting.rules (before ++ later) → All (FitsWindow setting.layout) (openings_after before later)
  fits-after [] before legal = All-nil (FitsWindow setting.layout)
  fits-after (Submit caller change from verdict trail ∷ later) before legal =
      fits-after later (before ++ Submit caller change from verdict trail ∷ [])
      (subst (IsLegal setting.rules) (sym (append_assoc before (Submit caller change from verdict trail ∷ []) later)) legal)
  fits-after (Look caller next ∷ later) before legal =
      fits-after later (before ++ Look caller next ∷ []) (subst (IsLegal setting.rules) (sym (append_assoc before (Look caller next ∷ []) later)) legal)
  fits-after (Open cycle mask ∷ later) before legal =
      let moved : IsLegal setting.rules ((before ++ Open cycle mask ∷ []) ++ later) = subst (IsLegal setting.rules) (sym (append_assoc before (Open cycle mask ∷ []) later)) legal in
      let one = (legal-parts setting.rules (before ++ Open cycle mask ∷ []) later moved).0 in
      All-cons (FitsWindow setting.layout) (record { cycle = cycle; mask = mask; placed = placed_of before }) (openings_after (before ++ Open cycle mask ∷ []) later)
      (opened-fits setting before cycle mask known one)
      (fits-after later (before ++ Open cycle mask ∷ []) moved)

  pub fits-all : (history : List Event) → IsLegal setting.rules history → All (FitsWindow setting.layout) (openings_of history)
  fits-all history legal = fits-after history [] legal

module _ (setting : Setting) (reserve : ℕ) (late : Late) (silent : Silent) (asks : Asks) (history : List Event) (outages : List Outage) (trace : List TimedFrame)
    (is_reserved : IsReserved setting reserve) (whole : SendsWhole setting.sends) (forgets : ForgetsEnds setting.sends)
    (guarded : AreGuarded reserve late setting.layout asks) (legal : IsLegal setting.rules history)
    (traced : IsDisturbedRun reserve late silent setting.sends setting.layout asks (openings_of history) (next_of history) outages trace) where
  abbrev pub layout : CycleLayout
  layout = setting.layout

  abbrev pub openings : List Opening
  openings = openings_of history

  abbrev placed : List Placed
  placed = placed_of history

  abbrev next : ℕ
  next = next_of history

  abbrev plan : Planning
  plan = plan_of setting.rules placed

  abbrev pub keeps : Opening → Type 0
  keeps o = KeepsBudget layout reserve late silent outages trace o

  pub by : AreOpenedBy setting.rules placed next openings
  by = opened-legal setting.rules history legal

  fit : (o : Opening) → Contains openings o → FitsWindow layout o
  fit o opened = All-contains (FitsWindow layout) openings o (fits-all setting is_reserved.known history legal) opened

  some-time : 0 < layout.cycle
  some-time = let range = is_reserved.known.known.cycle_range.above in omega arith

  below : (o : Opening) → Contains openings o → o.cycle < next
  below o opened = All-contains (λ x. x.cycle < next) openings o by.below opened

  pub one-kept : (o : Opening) → Contains openings o → keeps o
      → IsCycleKept setting.sends layout reserve late silent (outages ++ under_way (start_of layout o) trace) trace o
  one-kept o opened budget =
      cycle-kept reserve late silent setting.sends layout is_reserved.known.known asks openings next outages trace is_reserved.room whole guarded by.each_once traced
      o opened (below o opened) (fit o opened) budget

  pub might : (o : Opening) → Contains openings o → (s : TimedFrame) → Contains trace s → start_of layout o ≤ s.start → s.start < end_of_cycle layout o
      → may_start_in reserve late silent setting.sends layout asks o (started_before s.start trace) s.start s.frame
  might = offered-there reserve late silent setting.sends layout is_reserved.known.known asks openings next outages trace is_reserved.room whole guarded by.each_once traced

  -- The cycle of a frame

  record IsInCycle (s : TimedFrame) : Type 0 where
    o : Opening
    opened : Contains openings o
    cycle : o.cycle ≡ cycle_of layout s
    from : start_of layout o ≤ s.start
    until : s.start < end_of_cycle layout o

  in-cycle : (s : TimedFrame) → Contains trace s → IsInCycle s
  in-cycle s has =
      let started : s.start < next * layout.cycle = All-contains (λ x. x.start < next * layout.cycle) trace s traced.within has in
      let low : cycle_of layout s < next = (div-lt_iff_lt-mul {k = layout.cycle} {x = s.start} {y = next} some-time).1 started in
      let opened = by.opened (cycle_of layout s) low in
      let time = from-cycle layout s some-time in
      record {
        o = opened.0;
        opened = opened.1;
        cycle = opened.2;
        from = subst (λ c. c * layout.cycle ≤ s.start) (sym opened.2) time.0;
        until = subst (λ c. s.start < (c + 1) * layout.cycle) (sym opened.2) time.1;
      }

  flagged-as_planned : (o : Opening) (slot : ℕ) → Contains openings o → slot < most_slots → has_bit o.mask slot ≡ flags_of plan o.cycle slot
  flagged-as_planned o slot opened within =
      let mask : o.mask ≡ mask_at plan o.cycle = All-contains (λ x. x.mask ≡ mask_at plan x.cycle) openings o by.masks opened in
      ap (λ m. has_bit m slot) mask ∙ mask-planned setting.rules placed by.well by.in_time o.cycle slot within

  -- a frame of a slot's identifier starts where the slot is flagged
  flagged-there : (s : TimedFrame) (slot : ℕ) → Contains trace s → (at : IsInCycle s) → slot < most_slots → s.frame.identifier ≡ first_identifier + slot → has_bit at.o.mask slot ≡ true
  flagged-there s slot has at within same =
      elim (might at.o at.opened s has at.from at.until) [
        | inl trigger ↦
            let low = All-contains (λ f. f.identifier ≤ 1) (triggers_from reserve layout at.o) s.frame (low_ids layout.slots at.o.cycle (width_of at.o + reserve) at.o.mask) trigger.among in
            absurd (omega (arith, low, same))
        | inr (inl asked) ↦ let is = guarded at.o (started_before s.start trace) s.start s.frame asked in absurd (omega (arith, is.identifier, same, within))
        | inr (inr (other, is)) ↦ subst (λ n. has_bit at.o.mask n ≡ true) (omega (arith, is.identifier, same)) is.flagged
      ]

  -- Served

  bytes-sent : (p : Placed) (k : ℕ) (o : Opening) → Contains openings o → Contains placed p → MaySend p k o.cycle
      → bytes_sent setting.sends o p.entry.slot ≡ Some (setting.sends (record { placed = p; number = k }))
  bytes-sent p k o opened stands may_send =
      let place = place-of placed p stands in
      let found = instance_in-found placed by.well place.0 k o.cycle p place.1 may_send in
      let same = All-contains (λ x. (slot : ℕ) → option_map without_end (instance_in x.placed slot x.cycle) ≡ option_map without_end (instance_in placed slot x.cycle)) openings o by.instances opened p.entry.slot in
      forget (instance_in o.placed p.entry.slot o.cycle) (record { placed = p; number = k }) (same ∙ ap (option_map without_end) found)
    where
      forget : (i : Option Instance) (x : Instance) → option_map without_end i ≡ Some (without_end x) → option_map setting.sends i ≡ Some (setting.sends x)
      forget (Some y) x same =
          let one : without_end y ≡ without_end x = cc in
          ap Some (sym (forgets y) ∙ ap setting.sends one ∙ forgets x)
      forget None x same = absurd (cc)

  module _ (p : Placed) (k last : ℕ) (stands : Contains placed p) (exists : Exists p (release_of p k)) (is_last : IsLastCycle p k last) (early : last < next) (loud : IsLoud silent p k last)
      (has_budget : HasBudget layout reserve late silent outages trace openings p k last) where
    abbrev slot : ℕ
    slot = p.entry.slot

    slot-known : slot < most_slots
    slot-known = (All-contains IsInRange placed p by.well.in_range stands).entry.slot

    pub its : IsFlaggedOnce (flags_of plan) slot (release_of p k) last
    its = planned_once setting.rules placed by.well by.in_time next p k last stands exists is_last early

    at : (o : Opening) × Contains openings o × (o.cycle ≡ its.cycle)
    at = by.opened its.cycle (omega (arith, its.before, early))

    abbrev o_ : Opening
    o_ = at.0

    flag : has_bit o_.mask slot ≡ true
    flag = flagged-as_planned o_ slot at.1 slot-known ∙ ap (λ c. flags_of plan c slot) at.2 ∙ its.flagged

    released : release_of p k ≤ o_.cycle
    released = let c = at.2 in omega (arith, c, its.after)

    in-last : o_.cycle ≤ last
    in-last = let c = at.2 in omega (arith, c, its.before)

    budget : keeps o_
    budget = has_budget o_ at.1 released in-last flag

    loud-flag : (has_bit o_.mask slot && not (is_silent silent o_.cycle slot)) ≡ true
    loud-flag = and_from (has_bit o_.mask slot) (not (is_silent silent o_.cycle slot)) flag (ap not (loud o_.cycle released in-last))

    abbrev wanted : TimedFrame → Bool
    wanted s = eqb s.frame.identifier (first_identifier + slot) && (leb (release_of p k) (cycle_of layout s) && leb (cycle_of layout s) last)

    -- a wanted frame starts in that cycle
    there : (s : TimedFrame) → Contains trace s → wanted s ≡ true → (s.frame.identifier ≡ first_identifier + slot) × (start_of layout o_ ≤ s.start) × (s.start < end_of_cycle layout o_)
    there s has is =
        let parts = and_parts (eqb s.frame.identifier (first_identifier + slot)) _ is in
        let times = and_parts (leb (release_of p k) (cycle_of layout s)) (leb (cycle_of layout s) last) parts.1 in
        let same = eqb-true s.frame.identifier (first_identifier + slot) parts.0 in
        let here = in-cycle s has in
        let flag_there = sym (flagged-as_planned here.o slot here.opened slot-known) ∙ flagged-there s slot has here slot-known same in
        let cycle = its.alone here.o.cycle (omega (arith, here.cycle, leb-true (release_of p k) (cycle_of layout s) times.0)) (omega (arith, here.cycle, leb-true (cycle_of layout s) last times.1)) flag_there in
        let one : here.o.cycle ≡ o_.cycle = cycle ∙ sym at.2 in
        (same, subst (λ c. c * layout.cycle ≤ s.start) one here.from, subst (λ c. s.start < (c + 1) * layout.cycle) one here.until)

    alone : AllPairs (λ a b. wanted a ≡ true → wanted b ≡ true → ⊥) trace
    alone i j d order within ok_ also =
        let x = get_or trace i d in
        let y = get_or trace j d in
        let has_x = Contains-get_or trace i d (omega (arith, order, within)) in
        let has_y = Contains-get_or trace j d within in
        let one = there x has_x ok_ in
        let two = there y has_y also in
        let apart = traced.ordered.apart i j d order within in
        let long = some-long reserve late silent setting.sends layout is_reserved.known.known asks openings next outages trace is_reserved.room whole guarded by.each_once traced x has_x in
        twice reserve late silent setting.sends layout is_reserved.known.known asks openings next outages trace is_reserved.room whole guarded by.each_once traced o_ at.1 x y has_x has_y
        (omega (arith, apart, long)) one.1 two.2 (one.0 ∙ sym two.0) (let small = slot-known in omega (arith, two.0, small))

    pub served : IsServedAgain setting.sends layout reserve late openings trace p k last
    served =
        let sent = slot-sent reserve late silent setting.sends layout is_reserved.known.known asks openings next outages trace is_reserved.room whole guarded by.each_once traced
        o_ at.1 (below o_ at.1) (fit o_ at.1) budget slot slot-known loud-flag in
        let begun = window-from_begin reserve late silent setting.sends layout is_reserved.known.known asks openings next outages trace is_reserved.room whole guarded by.each_once traced
        o_ at.1 (below o_ at.1) (fit o_ at.1) budget in
        let cycle = cycle-at layout sent.sent o_.cycle (omega (arith, begun, sent.after)) sent.before_ in
        let bytes = bytes-sent p k o_ at.1 stands (record { exists = exists; released = released; in_time = (let c = at.2 in let b = its.before in omega arith) }) in
        let carries : Some (setting.sends (record { placed = p; number = k })) ≡ Some sent.sent.frame.bytes = sym bytes ∙ sent.carries in
        record {
          sent = sent.sent;
          once = filter-once wanted trace sent.sent sent.among
              (and_from (eqb sent.sent.frame.identifier (first_identifier + slot))
              (leb (release_of p k) (cycle_of layout sent.sent) && leb (cycle_of layout sent.sent) last) (eq-eqb sent.sent.frame.identifier (first_identifier + slot) sent.identifier)
              (and_from (leb (release_of p k) (cycle_of layout sent.sent)) (leb (cycle_of layout sent.sent) last)
              (le-leb (release_of p k) (cycle_of layout sent.sent) (omega (arith, cycle, released)))
              (le-leb (cycle_of layout sent.sent) last (omega (arith, cycle, in-last)))))
              alone;
          in_time = record { opening = o_; opened = at.1; cycle = sym cycle; after = sent.after; before = sent.ends };
          carries = cc;
        }

    -- the frame starts in the cycle in which the slot is flagged
    pub served-cycle : cycle_of layout served.sent ≡ its.cycle
    unfolding served at its
    served-cycle = sym served.in_time.cycle ∙ at.2

  -- Nothing else

  some-of : {X : Type 0} (o : Option X) → IsSome o → (x : X) × (o ≡ Some x)
  some-of o is = grind arith

  no-strangers : NoStrangers layout placed trace
  no-strangers slot within k d here same =
      let s = get_or trace k d in
      let has = Contains-get_or trace k d here in
      let at = in-cycle s has in
      let mask : at.o.mask ≡ mask_at plan at.o.cycle = All-contains (λ x. x.mask ≡ mask_at plan x.cycle) openings at.o by.masks at.opened in
      let flagged : has_bit (mask_at plan at.o.cycle) slot ≡ true = ap (λ m. has_bit m slot) (sym mask) ∙ flagged-there s slot has at within same in
      let some = some-of (instance_in placed slot at.o.cycle) (mask-sendable setting.rules placed by.well by.in_time at.o.cycle slot flagged) in
      let may_send = subst (λ x. IfSome x (λ y. Contains placed y.placed × (y.placed.entry.slot ≡ slot) × MaySend y.placed y.number at.o.cycle)) some.1 (instance_in-sound placed slot at.o.cycle) in
      record { p = some.0.placed; k = some.0.number; stands = may_send.0; of_slot = may_send.1; in_time = subst (MaySend some.0.placed some.0.number) at.cycle may_send.2 }

  all-guarded : AllGuardedAgain layout reserve late openings trace
  all-guarded k d here high =
      let s = get_or trace k d in
      let has = Contains-get_or trace k d here in
      let at = in-cycle s has in
      elim (might at.o at.opened s has at.from at.until) [
        | inl trigger ↦
            let low = All-contains (λ f. f.identifier ≤ 1) (triggers_from reserve layout at.o) s.frame (low_ids layout.slots at.o.cycle (width_of at.o + reserve) at.o.mask) trigger.among in
            absurd (omega (arith, low, high))
        | inr (inl asked) ↦
            let is = guarded at.o (started_before s.start trace) s.start s.frame asked in
            let long = All-contains (λ x. x.len ≡ wire_length x.frame) trace s traced.ordered.lengths has in
            record { opening = at.o; opened = at.opened; after = is.opened; before = omega (arith, is.whole, long, wire-most s.frame) }
        | inr (inr (other, is)) ↦ absurd (omega (arith, is.identifier, is.known, high))
      ]

  pub kept-but_bad : KeptButForBad setting reserve late silent history outages trace
  kept-but_bad = record {
    legal = legal;
    kept = λ i e there_ budget. one-kept (get_or openings i e) (Contains-get_or openings i e there_) budget;
    served = served;
    no_strangers = no-strangers;
    guarded = all-guarded;
  }

  -- Where each cycle is within its budget, none leaves anything

  module _ (within : All (IsWithinBudget layout reserve late silent outages) openings) where
    abbrev pub ended-before : Opening → Type 0
    ended-before o = (s : TimedFrame) → Contains trace s → s.start < start_of layout o → end_of s ≤ start_of layout o

    with-left : (o : Opening) → Contains openings o → ended-before o → keeps o
    with-left o opened ended =
        clean-budget reserve late silent layout outages trace o
        (let w = fit o opened in let room = is_reserved.room in let longer = add-mul o.cycle 1 layout.cycle in omega (arith, w.width, room, longer)) ended
        (All-contains (IsWithinBudget layout reserve late silent outages) openings o within opened)

    -- what started before a cycle has ended by its start
    ended : (c : ℕ) → c ≤ next → (s : TimedFrame) → Contains trace s → s.start < c * layout.cycle → end_of s ≤ c * layout.cycle
    ended zero order s has early = absurd (omega (arith, early, zero-mul layout.cycle))
    ended (suc c) order s has early =
        let opened = by.opened c (omega arith) in
        let o : Opening = opened.0 in
        let is : o.cycle ≡ c = opened.2 in
        let now : o.cycle + 1 ≡ suc c = omega (arith, is) in
        let before : ended-before o
        = subst (λ n. (x : TimedFrame) → Contains trace x → x.start < n * layout.cycle → end_of x ≤ n * layout.cycle) (sym is) (ended c (omega arith)) in
        let one = one-kept o opened.1 (with-left o opened.1 before) in
        let longer = add-mul o.cycle 1 layout.cycle in
        let step : s.start < (o.cycle + 1) * layout.cycle → end_of s ≤ (o.cycle + 1) * layout.cycle
        = λ started. elim (cases_lt s.start (start_of layout o)) [
          | inl past ↦ omega (arith, before s has past, longer)
          | inr from ↦ All-contains (λ x. start_of layout o ≤ x.start → x.start < end_of_cycle layout o → end_of x ≤ end_of_cycle layout o) trace s one.ended has from started
        ] in
        subst (λ n. s.start < n * layout.cycle → end_of s ≤ n * layout.cycle) now step early

    pub before-cycle : (o : Opening) → Contains openings o → ended-before o
    before-cycle o opened = ended o.cycle (let small = below o opened in omega (arith, small))

    pub all-keep : (o : Opening) → Contains openings o → keeps o
    all-keep o opened = with-left o opened (before-cycle o opened)

    heard-so : (o : Opening) → Contains openings o → IsTriggerHeard reserve layout silent outages trace o
    heard-so o opened loud k d here =
        let is = (one-kept o opened (all-keep o opened)).heard loud k d here in
        let same = lost-same (start_of layout o) (async_open layout o.cycle) (start_of layout o) outages trace (omega arith) (before-cycle o opened) in
        record {
          sent = is.sent;
          among = is.among;
          its_frame = is.its_frame;
          after = is.after;
          before = is.before;
          soon = omega (arith, is.soon, same);
        }

    pub has-budget : (p : Placed) (k last : ℕ) → HasBudget layout reserve late silent outages trace openings p k last
    has-budget p k last o opened from until flagged = all-keep o opened

    pub kept : KeptAgain setting reserve late silent history outages trace
    kept = record {
      legal = legal;
      heard = λ i e there_. heard-so (get_or openings i e) (Contains-get_or openings i e there_);
      served = λ p k last stands exists is_last early loud. served p k last stands exists is_last early loud (has-budget p k last);
      no_strangers = no-strangers;
      guarded = all-guarded;
    }
