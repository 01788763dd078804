-- One opened cycle on a disturbed bus: its trigger frames are sent before the asynchronous window, and each flagged slot
-- is sent in the synchronous window, exactly once.
use Rattle.std.proofs.Common.{◌≡◌, ◌≢◌, ℕ, zero, suc, ◌+◌, ◌-◌, ◌*◌, ◌<◌, ◌≤◌, ◌&&◌, not, if◌then◌else◌, Bool, true, false, List, [], ◌∷◌, ◌++◌, All, AllPairs, Contains, get_or, ◌⊎◌, inl, inr, Option, Some, refl, sym, ap, ◌∙◌, subst, arith, suc-mul, zero-mul, add-mul, mul-le-mul_right, length, option_map, IsSome}
use Rattle.std.specs.Option.{option_map_or}
use Rattle.stuff_bound.specs.Stuffing.{worst}
use Rattle.std.specs.Prelude.{nat_lt}
use Rattle.std.proofs.Math.Nat.{div-eq_of_lt-le}
use Rattle.std.proofs.lemmas.Bool.{and_from, cases_lt, le-leb, lt-ltb, ltb-true}
use Rattle.std.proofs.lemmas.List.Sums.{sum_by-append, sum_by-cons}
use Rattle.std.proofs.lemmas.List.Elements.{All-contains, All-filter, Contains-append_left, Contains-append_right, Contains-get_or, filter_passes}
use Rattle.profile.specs.Limits.{first_identifier, least_asynchronous}
use Rattle.bit_sets.specs.Sets.{has_bit, most_slots, sum_where}
use Rattle.bit_sets.proofs.Shared.{sum_where-next, sum_where-zero}
use Rattle.can_frame.specs.DataFrame.{DataFrame}
use Rattle.can_frame.specs.Wire.{wire_length}
use Rattle.can_frame.specs.declared.data_frame.TimedFrame.{TimedFrame}
use Rattle.can_frame.proofs.Shared.{wire-most, wire-positive}
use Rattle.trigger_kind.specs.declared.Triggers.{Triggers}
use Rattle.trigger_kind.specs.declared.Triggers.TheVariants.{One, Two}
use Rattle.trigger_kind.specs.Kind.{count_of, part_of, triggers_of}
use Rattle.trigger_codec.specs.Bytes.{later_frames, second_frame, trigger_frame}
use Rattle.trigger_codec.proofs.Shared.{eight_bytes}
use Rattle.cycle_layout.specs.Layout.{CycleLayout, IsLayout, async_open, needed}
use Rattle.requirement_table.specs.Instance.{Instance}
use Rattle.requirement_table.specs.Opening.{Opening, width_of}
use Rattle.requirement_table.specs.Table.{instance_in, worst_in}
use Rattle.requirement_table.specs.Instance.{worst_of}
use Rattle.bus_line.specs.Trace.{end_of, started_before}
use Rattle.node_model.specs.Opening.{end_of_cycle, start_of}
use Rattle.node_model.specs.Offered.{HasNotStarted, bytes_sent}
use Rattle.cycle_engine.specs.Cycle.{FitsWindow}
use Rattle.cycle_engine.specs.Offered.{AreOfDistinctCycles, SendsWhole}
use Rattle.cycle_engine.proofs.Shared.{Contains-filter, Contains-here, same_by_number, slot-in_time}
use Rattle.node_model.proofs.Shared.{Contains-map}
use Rattle.disturbed_runs.specs.Outages.{Outage, end_of_outage, lost_in, overlap, under_way}
use Rattle.disturbed_runs.specs.Offered.{AreGuarded, Asks, IsDisturbedRun, Late, Silent, first_from, is_silent, may_start, may_start_in, offered_again, room_for_outages, silent_width, triggers_from, window_from}
use Rattle.disturbed_runs.specs.Budget.{IsWithinBudget}
use Rattle.disturbed_runs.proofs.Drain.{Drains, IsCovering, IsDone, done, is_from, parts-more}
use Rattle.disturbed_runs.proofs.Left.{started-in}
use Rattle.disturbed_runs.proofs.Lists.{Any-element, pair-cases}

abbrev pub start_time : TimedFrame → ℕ
start_time sent = sent.start

abbrev pub bit_times : TimedFrame → ℕ
bit_times sent = sent.len

abbrev pub id_of : TimedFrame → ℕ
id_of sent = sent.frame.identifier

abbrev pub outage_start : Outage → ℕ
outage_start outage = outage.start

abbrev pub outage_span : Outage → ℕ
outage_span outage = outage.span

abbrev pub any_outage : Outage → Bool
any_outage outage = true

-- The trigger frames, by their identifiers

trigger-of : (triggers : Triggers) (cycle mask : ℕ) (first : DataFrame) → first.identifier ≡ 0 → (i : ℕ) → i < count_of triggers
    → (f : DataFrame) × Contains (first ∷ later_frames triggers cycle mask) f × (f.identifier ≡ i)
trigger-of One cycle mask first is i below = (first, (0, omega arith, refl), is ∙ omega (arith, below))
trigger-of Two cycle mask first is zero below = (first, (0, omega arith, refl), is)
trigger-of Two cycle mask first is (suc zero) below = (second_frame cycle mask, (1, omega arith, refl), refl)
trigger-of Two cycle mask first is (suc (suc i)) below = absurd (omega (arith, below))

ids-below : (triggers : Triggers) (cycle mask : ℕ) (first : DataFrame) → first.identifier ≡ 0
    → All (λ f. f.identifier < count_of triggers) (first ∷ later_frames triggers cycle mask)
ids-below One cycle mask first is zero d within = omega (arith, is)
ids-below One cycle mask first is (suc k) d within = absurd (omega (arith, within))
ids-below Two cycle mask first is zero d within = omega (arith, is)
ids-below Two cycle mask first is (suc zero) d within = omega arith
ids-below Two cycle mask first is (suc (suc k)) d within = absurd (omega (arith, within))

sum-constant : (n c : ℕ) → sum_where n (λ _. true) (λ _. c) ≡ n * c
sum-constant zero c = sum_where-zero (λ _. true) (λ _. c) ∙ sym (zero-mul c)
sum-constant (suc n) c = sum_where-next n (λ _. true) (λ _. c) ∙ ap (λ s. s + c) (sum-constant n c) ∙ sym (suc-mul n c)

-- a sum over what passes, in two parts
sum-parts : (n : ℕ) (p q : ℕ → Bool) (f : ℕ → ℕ)
    → sum_where n (λ s. p s && not (q s)) f + sum_where n (λ s. p s && q s) f ≡ sum_where n p f
sum-parts zero p q f = omega (arith, sum_where-zero p f, sum_where-zero (λ s. p s && not (q s)) f, sum_where-zero (λ s. p s && q s) f)
sum-parts (suc n) p q f =
    omega (arith, sum_where-next n p f, sum_where-next n (λ s. p s && not (q s)) f, sum_where-next n (λ s. p s && q s) f, sum-parts n p q f, one (p n) (q n) (f n))
  where
    one : (a b : Bool) (x : ℕ) → (if a && not b then x else 0) + (if a && b then x else 0) ≡ (if a then x else 0)
    one true true x = omega arith
    one true false x = omega arith
    one false b x = refl

-- What may start in a cycle

module _ (reserve : ℕ) (late : Late) (silent : Silent) (sends : Instance → List ℕ) (layout : CycleLayout) (known : IsLayout layout) (asks : Asks) (openings : List Opening)
    (room : needed layout.turnaround (layout.window + reserve) layout.slots ≤ layout.cycle)
    (guarded : AreGuarded reserve late layout asks) (each_once : AreOfDistinctCycles openings) where
  pub ends-at : (o : Opening) → end_of_cycle layout o ≡ start_of layout o + layout.cycle
  ends-at o = add-mul o.cycle 1 layout.cycle ∙ omega arith

  -- what may start in a cycle may start at a time of it
  in-cycle : (o : Opening) (past : List TimedFrame) (at : ℕ) (frame : DataFrame) → may_start_in reserve late silent sends layout asks o past at frame
      → (start_of layout o ≤ at) × (at < end_of_cycle layout o)
  in-cycle o past at frame (inl trigger) =
      (trigger.begun, omega (arith, trigger.within, room, ends-at o, known.window_range.above))
  in-cycle o past at frame (inr (inl asked)) =
      let is = guarded o past at frame asked in
      (omega (arith, is.opened), is.within)
  in-cycle o past at frame (inr (inr (slot, is))) = (is.begun, omega (arith, is.in_cycle))

  same-cycle : (c d at : ℕ) → c * layout.cycle ≤ at → at < (c + 1) * layout.cycle → d * layout.cycle ≤ at → at < (d + 1) * layout.cycle → c ≡ d
  same-cycle c d at from before also_from also_before =
      sym (div-eq_of_lt-le layout.cycle from before) ∙ div-eq_of_lt-le layout.cycle also_from also_before

  -- and what may start at a time of an opened cycle may start in that one
  pub allowed-in : (o : Opening) → Contains openings o → (past : List TimedFrame) (at : ℕ) (frame : DataFrame)
      → may_start reserve late silent sends layout asks openings past at frame → start_of layout o ≤ at → at < end_of_cycle layout o
      → may_start_in reserve late silent sends layout asks o past at frame
  allowed-in o opened past at frame by from before =
      let time = in-cycle by.0 past at frame by.2 in
      let same = same_by_number (λ x. x.cycle) openings by.0 o each_once by.1 opened (same-cycle by.0.cycle o.cycle at time.0 time.1 from before) in
      subst (λ x. may_start_in reserve late silent sends layout asks x past at frame) same by.2

module _ (reserve : ℕ) (late : Late) (silent : Silent) (sends : Instance → List ℕ) (layout : CycleLayout) (known : IsLayout layout) (asks : Asks) (openings : List Opening)
    (count : ℕ) (outages : List Outage) (trace : List TimedFrame)
    (room : needed layout.turnaround (layout.window + reserve) layout.slots ≤ layout.cycle)
    (whole : SendsWhole sends) (guarded : AreGuarded reserve late layout asks) (each_once : AreOfDistinctCycles openings)
    (traced : IsDisturbedRun reserve late silent sends layout asks openings count outages trace) where
  wire-of : (s : TimedFrame) → Contains trace s → s.len ≡ wire_length s.frame
  wire-of s has = All-contains (λ x. x.len ≡ wire_length x.frame) trace s traced.ordered.lengths has

  pub some-long : (s : TimedFrame) → Contains trace s → 0 < s.len
  some-long s has = omega (arith, wire-of s has, wire-positive s.frame)

  ends-by : (o : Opening) → end_of_cycle layout o ≡ start_of layout o + layout.cycle
  ends-by o = ends-at reserve late silent sends layout known asks openings room guarded each_once o

  -- a frame that starts in an opened cycle might start in it
  pub offered-there : (o : Opening) → Contains openings o → (s : TimedFrame) → Contains trace s → start_of layout o ≤ s.start → s.start < end_of_cycle layout o
      → may_start_in reserve late silent sends layout asks o (started_before s.start trace) s.start s.frame
  offered-there o opened s has from before =
      allowed-in reserve late silent sends layout known asks openings room guarded each_once o opened (started_before s.start trace) s.start s.frame
      (All-contains (λ x. may_start reserve late silent sends layout asks openings (started_before x.start trace) x.start x.frame) trace s traced.allowed has) from before

  -- no frame of an identifier started in the cycle before a time
  not-started : (o : Opening) (id at : ℕ)
      → ((s : TimedFrame) → Contains trace s → s.frame.identifier ≡ id → start_of layout o ≤ s.start → s.start < at → ⊥)
      → HasNotStarted layout o id (started_before at trace)
  not-started o id at none k d within same =
      let s = get_or (started_before at trace) k d in
      let is = started-in trace at s (Contains-get_or (started_before at trace) k d within) in
      elim (cases_lt s.start (start_of layout o)) [
        | inl early ↦ early
        | inr late ↦ absurd (none s is.0 same late is.1)
      ]

  -- a time at which something is offered is covered: by a frame from a time on, by one from before, or by an outage
  record IsFromBefore (low at : ℕ) : Type 0 where
    it : TimedFrame
    among : Contains trace it
    early : it.start < low
    on : at < end_of it

  record IsOut (at : ℕ) : Type 0 where
    it : Outage
    among : Contains outages it
    from : it.start ≤ at
    before : at < end_of_outage it

  covering : (at low : ℕ) (frame : DataFrame) → at < count * layout.cycle → offered_again reserve late silent sends layout openings (started_before at trace) at frame
      → IsCovering start_time bit_times (is_from start_time low) low trace at ⊎ (IsFromBefore low at ⊎ IsOut at)
  covering at low frame before offered = elim (traced.busy at frame before offered) [
    | inl some ↦
        let is = Any-element (λ s. (s.start ≤ at) × (at < end_of s)) trace some in
        elim (cases_lt is.0.start low) [
          | inl early ↦ inr (inl (record { it = is.0; among = is.1; early = early; on = is.2.1 }))
          | inr late_ ↦ inl (record { it = is.0; among = is.1; passes = le-leb low is.0.start late_; from = is.2.0; before = is.2.1 })
        ]
    | inr some ↦
        let is = Any-element (λ x. (x.start ≤ at) × (at < end_of_outage x)) outages some in
        inr (inr (record { it = is.0; among = is.1; from = is.2.0; before = is.2.1 }))
  ]

  -- the identifiers of trigger frames and slots start at most once in a cycle
  pub twice : (o : Opening) → Contains openings o → (x y : TimedFrame) → Contains trace x → Contains trace y → x.start < y.start → start_of layout o ≤ x.start
      → y.start < end_of_cycle layout o → x.frame.identifier ≡ y.frame.identifier → y.frame.identifier < least_asynchronous → ⊥
  twice o opened x y has also order from before same low =
      let past : Contains (started_before y.start trace) x = Contains-filter (λ s. nat_lt s.start y.start) trace x has (lt-ltb x.start y.start order) in
      elim (offered-there o opened y also (omega (arith, from, order)) before) [
        | inl trigger ↦
            let early = All-contains (λ s. s.frame.identifier ≡ y.frame.identifier → s.start < start_of layout o) (started_before y.start trace) x trigger.unsent past same in
            omega (arith, early, from)
        | inr (inl asked) ↦ let is = guarded o (started_before y.start trace) y.start y.frame asked in omega (arith, is.identifier, low)
        | inr (inr (slot, is)) ↦
            let early = All-contains (λ s. s.frame.identifier ≡ first_identifier + slot → s.start < start_of layout o) (started_before y.start trace) x is.unsent past (same ∙ is.identifier) in
            omega (arith, early, from)
      ]

  pub order-of : (x y : TimedFrame) → Contains trace x → Contains trace y → (x ≡ y) ⊎ ((x.start < y.start) ⊎ (y.start < x.start))
  order-of x y has also = elim (pair-cases (λ a b. end_of a ≤ b.start) trace x y traced.ordered.apart has also) [
    | inl same ↦ inl same
    | inr (inl first) ↦ inr (inl (omega (arith, first, some-long x has)))
    | inr (inr second) ↦ inr (inr (omega (arith, second, some-long y also)))
  ]

  module _ (o : Opening) (opened : Contains openings o) (early : o.cycle < count) (fit : FitsWindow layout o)
      (budget : IsWithinBudget layout reserve late silent (outages ++ under_way (start_of layout o) trace) o) where
    abbrev begin : ℕ
    begin = start_of layout o

    abbrev open_ : ℕ
    open_ = async_open layout o.cycle

    abbrev window_ : ℕ
    window_ = first_from reserve late layout o

    abbrev finish : ℕ
    finish = end_of_cycle layout o

    -- what is lost in the cycle: outages, and what is left of earlier frames
    abbrev gone : List Outage
    gone = outages ++ under_way begin trace

    -- and in its window also the times at which not all nodes have it open
    abbrev not_yet : Outage
    not_yet = record { start = window_; span = late.most o.cycle - late.least o.cycle }

    abbrev gone_in : List Outage
    gone_in = gone ++ not_yet ∷ []

    opens-by : open_ ≤ window_
    opens-by = omega (arith, room, fit.width, ends-by o)

    pub window-from_begin : begin ≤ window_
    window-from_begin = omega (arith, opens-by)

    window-is : window_ + (width_of o + reserve) ≡ finish + late.least o.cycle
    window-is = omega (arith, room, fit.width, ends-by o)

    -- the room for outages that is left where the nodes are late
    abbrev room_left : ℕ
    room_left = room_for_outages reserve silent o - late.least o.cycle

    silent-part : silent_width silent o ≤ width_of o
    silent-part = let parts_ = sum-parts most_slots (has_bit o.mask) (is_silent silent o.cycle) (worst_in o.placed o.cycle) in omega (arith, parts_)

    window-in : window_ ≤ finish
    window-in = omega (arith, window-is, budget.window, budget.in_order, silent-part)

    run-on : finish ≤ count * layout.cycle
    run-on = mul-le-mul_right layout.cycle (omega (arith, early))

    -- what is lost by an outage is lost, and so it is by a frame from before the cycle
    out-gone : (at : ℕ) → IsOut at → IsCovering outage_start outage_span any_outage begin gone at
    out-gone at is = record { it = is.it; among = Contains-append_left outages (under_way begin trace) is.it is.among; passes = refl; from = is.from; before = is.before }

    abbrev as_outage : TimedFrame → Outage
    as_outage s = record { start = s.start; span = s.len }

    left-gone : (at : ℕ) → begin ≤ at → IsFromBefore begin at → IsCovering outage_start outage_span any_outage begin gone at
    left-gone at from is =
        let before_ : Contains (started_before begin trace) is.it = Contains-filter (λ s. nat_lt s.start begin) trace is.it is.among (lt-ltb is.it.start begin is.early) in
        record {
          it = as_outage is.it;
          among = Contains-append_right outages (under_way begin trace) (as_outage is.it) (Contains-map as_outage (started_before begin trace) is.it before_);
          passes = refl;
          from = omega (arith, is.early, from);
          before = omega (arith, is.on);
        }

    also-in : (at : ℕ) → IsCovering outage_start outage_span any_outage begin gone at → IsCovering outage_start outage_span any_outage window_ gone_in at
    also-in at is = record { it = is.it; among = Contains-append_left gone (not_yet ∷ []) is.it is.among; passes = refl; from = is.from; before = is.before }

    late-in : (at : ℕ) → window_ ≤ at → at < window_from reserve late.most layout o → IsCovering outage_start outage_span any_outage window_ gone_in at
    late-in at from until = record {
      it = not_yet;
      among = Contains-append_right gone (not_yet ∷ []) not_yet (Contains-here not_yet []);
      passes = refl;
      from = from;
      before = omega (arith, until);
    }

    abbrev frames : List DataFrame
    frames = triggers_from reserve layout o

    abbrev kinds : Triggers
    kinds = triggers_of layout.slots

    once : (low high : ℕ) → begin ≤ low → high ≤ finish → (limit : (s : TimedFrame) → Contains trace s → low ≤ s.start → s.start < high → s.frame.identifier < least_asynchronous)
        → AllPairs (λ x y. low ≤ x.start → x.start < high → low ≤ y.start → y.start < high → x.frame.identifier ≢ y.frame.identifier) trace
    once low high from until limit i j d order within after_x before_x after_y before_y same =
        let x = get_or trace i d in
        let y = get_or trace j d in
        let has_x = Contains-get_or trace i d (omega (arith, order, within)) in
        let has_y = Contains-get_or trace j d within in
        let apart = traced.ordered.apart i j d order within in
        twice o opened x y has_x has_y (omega (arith, apart, some-long x has_x)) (omega (arith, from, after_x)) (omega (arith, until, before_y)) same (limit y has_y after_y before_y)

    -- The trigger part

    -- a frame that starts before the asynchronous window is a trigger frame
    pub trigger-there : (s : TimedFrame) → Contains trace s → begin ≤ s.start → s.start < open_ → Contains frames s.frame × (silent.triggers o.cycle ≡ false)
    trigger-there s has from until = elim (offered-there o opened s has from (omega (arith, until, opens-by, window-in))) [
      | inl trigger ↦ (trigger.among, trigger.loud)
      | inr (inl asked) ↦ let is = guarded o (started_before s.start trace) s.start s.frame asked in absurd (omega (arith, is.opened, until))
      | inr (inr (slot, is)) ↦ absurd (omega (arith, is.late_enough, until, opens-by))
    ]

    pub trigger-low : (f : DataFrame) → Contains frames f → f.identifier < count_of kinds
    trigger-low f among = All-contains (λ x. x.identifier < count_of kinds) frames f (ids-below kinds o.cycle o.mask (trigger_frame o.cycle (width_of o + reserve) o.mask) refl) among

    eight-long : (f : DataFrame) → Contains frames f → length f.bytes ≡ 8
    eight-long f among = All-contains (λ x. length x.bytes ≡ 8) frames f (eight_bytes layout.slots o.cycle (width_of o + reserve) o.mask) among

    pub trigger-short : (s : TimedFrame) → Contains trace s → Contains frames s.frame → s.len ≤ 135
    trigger-short s has among =
        let eight = eight-long s.frame among in
        omega (arith, wire-of s has, wire-most s.frame, eight)

    kinds-few : (t : Triggers) → count_of t ≤ 2
    kinds-few One = omega arith
    kinds-few Two = omega arith

    part-is : (t : Triggers) → count_of t * 135 ≡ part_of t
    part-is One = refl
    part-is Two = refl

    abbrev cost_ : ℕ → ℕ
    cost_ i = 135

    abbrev all_ : ℕ → Bool
    all_ i = true

    -- what is lost until the asynchronous window opens, and the time by which each trigger frame has ended all the same
    abbrev lost_ : ℕ
    lost_ = lost_in begin open_ gone

    abbrev told_ : ℕ
    told_ = begin + part_of kinds + lost_

    pub told-by : told_ ≤ open_
    told-by = omega (arith, budget.triggers)

    triggers-drain : silent.triggers o.cycle ≡ false → Drains start_time bit_times id_of outage_start outage_span trace gone begin told_ lost_ 0 (count_of kinds) all_ cost_
    triggers-drain loud = record {
      busy = λ i at below flag from until none.
          let it = trigger-of kinds o.cycle o.mask (trigger_frame o.cycle (width_of o + reserve) o.mask) refl i below in
          elim (covering at begin it.0 (omega (arith, until, told-by, opens-by, window-in, run-on)) (
            o,
            opened,
            inl (
              record {
                begun = from;
                within = omega (arith, until, told-by);
                loud = loud;
                among = it.1;
                unsent = not-started o it.0.identifier at (λ s has same after started. none s has (same ∙ it.2 ∙ omega arith) after started);
              },
              (let eight = eight-long it.0 it.1 in omega (arith, until, told-by, eight)),
            ),
          )) [
            | inl is ↦ inl is
            | inr (inl is) ↦ inr (left-gone at from is)
            | inr (inr is) ↦ inr (out-gone at is)
          ];
      jobs = λ s has from until.
          let among = (trigger-there s has from (omega (arith, until, told-by))).0 in
          record { number = s.frame.identifier; below = trigger-low s.frame among; flag = refl; named = omega arith; short = trigger-short s has among };
      pairs = once begin told_ (omega arith) (omega (arith, told-by, opens-by, window-in))
          (λ s has from until. let low = trigger-low s.frame (trigger-there s has from (omega (arith, until, told-by))).0 in let few = kinds-few kinds in omega (arith, low, few));
      lost = parts-more outage_start outage_span any_outage begin told_ open_ gone told-by;
      fits = (let sum = sum-constant (count_of kinds) 135 in let part = part-is kinds in omega (arith, sum, part));
      some = λ i below flag. omega arith;
    }

    pub trigger-done : silent.triggers o.cycle ≡ false → (i : ℕ) → i < count_of kinds
        → IsDone start_time bit_times id_of outage_start outage_span trace gone begin told_ 0 i cost_
    trigger-done loud i below =
        done start_time bit_times id_of outage_start outage_span trace gone begin told_ lost_ 0 (count_of kinds) all_ cost_ (triggers-drain loud) i below refl

    -- so each trigger frame ends before the asynchronous window
    pub trigger-ends : (s : TimedFrame) → Contains trace s → begin ≤ s.start → s.start < open_ → end_of s ≤ open_
    trigger-ends s has from until =
        let there_ = trigger-there s has from until in
        let low = trigger-low s.frame there_.0 in
        let is = trigger-done there_.1 s.frame.identifier low in
        let few = kinds-few kinds in
        let ends : end_of is.it ≤ open_ =
        let its = (trigger-there is.it is.among is.after (omega (arith, is.before, told-by))).0 in omega (arith, is.before, told-by, trigger-short is.it is.among its) in
        elim (order-of s is.it has is.among) [
          | inl same ↦ subst (λ x. end_of x ≤ open_) (sym same) ends
          | inr (inl first) ↦
              absurd (twice o opened s is.it has is.among first from (omega (arith, is.before, told-by, opens-by, window-in)) (omega (arith, is.named)) (omega (arith, is.named, low, few)))
          | inr (inr second) ↦
              absurd (twice o opened is.it s is.among has second is.after (omega (arith, until, opens-by, window-in)) (omega (arith, is.named)) (omega (arith, low, few)))
        ]

    -- The synchronous window

    -- what started before the window has ended by then
    fresh-window : (s : TimedFrame) → Contains trace s → begin ≤ s.start → s.start < window_ → end_of s ≤ window_
    fresh-window s has from early_ = elim (cases_lt s.start open_) [
      | inl trigger ↦ omega (arith, trigger-ends s has from trigger, opens-by)
      | inr behind ↦ elim (offered-there o opened s has from (omega (arith, early_, window-in))) [
        | inl trigger ↦ absurd (omega (arith, trigger.within, behind))
        | inr (inl asked) ↦
            let is = guarded o (started_before s.start trace) s.start s.frame asked in
            omega (arith, is.whole, wire-of s has, wire-most s.frame)
        | inr (inr (slot, is)) ↦ absurd (omega (arith, is.late_enough, early_))
      ]
    ]

    -- the flagged slots that are not silent
    abbrev pub loud_flags : ℕ → Bool
    loud_flags slot = has_bit o.mask slot && not (is_silent silent o.cycle slot)

    pub loud-from : (slot : ℕ) → has_bit o.mask slot ≡ true → is_silent silent o.cycle slot ≡ false → loud_flags slot ≡ true
    loud-from slot flag loud = and_from (has_bit o.mask slot) (not (is_silent silent o.cycle slot)) flag (ap not loud)

    pub loud-parts : (slot : ℕ) → loud_flags slot ≡ true → (has_bit o.mask slot ≡ true) × (is_silent silent o.cycle slot ≡ false)
    loud-parts slot flag = split (has_bit o.mask slot) (is_silent silent o.cycle slot) flag
      where
        split : (a b : Bool) → (a && not b) ≡ true → (a ≡ true) × (b ≡ false)
        split true true is = absurd (cc)
        split true false is = (refl, refl)
        split false b is = absurd (cc)

    pub record IsSlotOf (s : TimedFrame) : Type 0 where
      pub slot : ℕ
      pub within : slot < most_slots
      pub flagged : loud_flags slot ≡ true
      pub identifier : s.frame.identifier ≡ first_identifier + slot
      pub bytes : bytes_sent sends o slot ≡ Some s.frame.bytes

    slot-there : (s : TimedFrame) → Contains trace s → window_ ≤ s.start → s.start < finish → IsSlotOf s
    slot-there s has from until = elim (offered-there o opened s has (omega (arith, from, opens-by)) until) [
      | inl trigger ↦ absurd (omega (arith, trigger.within, from, opens-by))
      | inr (inl asked) ↦ let is = guarded o (started_before s.start trace) s.start s.frame asked in absurd (omega (arith, is.whole, from))
      | inr (inr (slot, is)) ↦ record { slot = slot; within = is.known; flagged = loud-from slot is.flagged is.loud; identifier = is.identifier; bytes = is.bytes }
    ]

    -- a frame of a slot's identifier starts in the window
    pub slot-late : (s : TimedFrame) (slot : ℕ) → Contains trace s → begin ≤ s.start → s.start < finish → slot < most_slots → s.frame.identifier ≡ first_identifier + slot → window_ ≤ s.start
    slot-late s slot has from until within same = elim (offered-there o opened s has from until) [
      | inl trigger ↦ let low = trigger-low s.frame trigger.among in let few = kinds-few kinds in absurd (omega (arith, low, few, same))
      | inr (inl asked) ↦ let is = guarded o (started_before s.start trace) s.start s.frame asked in absurd (omega (arith, is.identifier, same, within))
      | inr (inr (other, is)) ↦ is.late_enough
    ]

    abbrev cost_of : ℕ → ℕ
    cost_of slot = worst_in o.placed o.cycle slot

    slot-short : (s : TimedFrame) → Contains trace s → (is : IsSlotOf s) → s.len ≤ cost_of is.slot
    slot-short s has is = let short = slot-in_time sends whole o is.slot s.frame is.bytes in omega (arith, short, wire-of s has)

    -- the frame of a flagged slot
    frame-of : (slot : ℕ) → slot < most_slots → loud_flags slot ≡ true
        → (f : DataFrame) × (f.identifier ≡ first_identifier + slot) × (bytes_sent sends o slot ≡ Some f.bytes) × (cost_of slot ≡ worst (length f.bytes))
    frame-of slot within flag =
        let some = instance-of (instance_in o.placed slot o.cycle) (fit.present slot within (loud-parts slot flag).0) in (
          record { identifier = first_identifier + slot; bytes = sends some.0 },
          refl,
          ap (option_map sends) some.1,
          ap (λ i. option_map_or worst_of i 0) some.1 ∙ ap worst (sym (whole some.0)),
        )
      where
        instance-of : (i : Option Instance) → IsSome i → (x : Instance) × (i ≡ Some x)
        instance-of i is = grind arith

    some-cost : (slot : ℕ) → slot < most_slots → loud_flags slot ≡ true → 0 < cost_of slot
    some-cost slot within flag =
        let it = frame-of slot within flag in
        let short = slot-in_time sends whole o slot it.0 it.2 in
        omega (arith, short, wire-positive it.0)

    before_end : (slot at : ℕ) → slot < most_slots → loud_flags slot ≡ true → at + cost_of slot ≤ finish → at < finish
    before_end slot at within flag until = let some = some-cost slot within flag in omega (arith, some, until)

    lost-in : lost_in window_ finish gone_in ≤ room_left
    lost-in =
        let sum = sum_by-append (overlap window_ finish) gone (not_yet ∷ []) in
        let one = sum_by-cons (overlap window_ finish) not_yet [] in
        omega (arith, sum, one, budget.window, budget.in_order)

    window-drains : Drains start_time bit_times id_of outage_start outage_span trace gone_in window_ finish room_left first_identifier most_slots loud_flags cost_of
    window-drains = record {
      busy = λ slot at within flag from until none.
          let it = frame-of slot within flag in
          elim (cases_lt at (window_from reserve late.most layout o)) [
            | inl not_all ↦ inr (late-in at from not_all)
            | inr all_open ↦ elim (covering at window_ it.0 (let early_ = before_end slot at within flag until in omega (arith, early_, run-on)) (
              o,
              opened,
              inr (
                slot,
                record {
                  begun = omega (arith, from, opens-by);
                  late_enough = all_open;
                  in_cycle = before_end slot at within flag until;
                  known = within;
                  flagged = (loud-parts slot flag).0;
                  loud = (loud-parts slot flag).1;
                  unsent = not-started o (first_identifier + slot) at (λ s has same after started.
                      none s has same (slot-late s slot has after (let early_ = before_end slot at within flag until in omega (arith, started, early_)) within same) started);
                  identifier = it.1;
                  bytes = it.2;
                },
                (let cost = it.3 in omega (arith, cost, until)),
              ),
            )) [
              | inl is ↦ inl is
              | inr (inr is) ↦ inr (also-in at (out-gone at is))
              | inr (inl is) ↦ elim (cases_lt is.it.start begin) [
                | inl past ↦ inr (also-in at (left-gone at (omega (arith, from, opens-by)) (record { it = is.it; among = is.among; early = past; on = is.on })))
                | inr here ↦ absurd (let ended = fresh-window is.it is.among here is.early in let on = is.on in omega (arith, ended, on, from))
              ]
            ]
          ];
      jobs = λ s has from until.
          let is = slot-there s has from until in
          record { number = is.slot; below = is.within; flag = is.flagged; named = is.identifier; short = slot-short s has is };
      pairs = once window_ finish (omega (arith, opens-by)) (omega arith)
          (λ s has from until. let is = slot-there s has from until in omega (arith, is.identifier, is.within));
      lost = lost-in;
      fits = (let parts_ = sum-parts most_slots (has_bit o.mask) (is_silent silent o.cycle) cost_of in omega (arith, window-is, parts_, budget.window, budget.in_order));
      some = some-cost;
    }

    -- each flagged slot is sent in the window
    pub record IsSentThere (slot : ℕ) : Type 0 where
      pub sent : TimedFrame
      pub among : Contains trace sent
      pub identifier : sent.frame.identifier ≡ first_identifier + slot
      pub after : window_ ≤ sent.start
      pub before_ : sent.start < finish
      pub ends : end_of sent ≤ finish
      pub carries : bytes_sent sends o slot ≡ Some sent.frame.bytes

    pub slot-sent : (slot : ℕ) → slot < most_slots → loud_flags slot ≡ true → IsSentThere slot
    slot-sent slot within flag =
        let is = done start_time bit_times id_of outage_start outage_span trace gone_in window_ finish room_left first_identifier most_slots loud_flags cost_of window-drains slot within flag in
        let cost = window-drains.some slot within flag in
        let its = slot-there is.it is.among is.after (omega (arith, is.before, cost)) in
        let same : its.slot ≡ slot = omega (arith, its.identifier, is.named) in
        let short = slot-short is.it is.among its in
        record {
          sent = is.it;
          among = is.among;
          identifier = is.named;
          after = is.after;
          before_ = omega (arith, is.before, cost);
          ends = (let here = ap cost_of same in omega (arith, short, here, is.before));
          carries = ap (bytes_sent sends o) (sym same) ∙ its.bytes;
        }

    pub slot-ends : (s : TimedFrame) → Contains trace s → window_ ≤ s.start → s.start < finish → end_of s ≤ finish
    slot-ends s has from until =
        let is = slot-there s has from until in
        let sent = slot-sent is.slot is.within is.flagged in
        let low = is.within in
        elim (order-of s sent.sent has sent.among) [
          | inl same ↦ subst (λ x. end_of x ≤ finish) (sym same) sent.ends
          | inr (inl first) ↦
              absurd (twice o opened s sent.sent has sent.among first (omega (arith, from, opens-by)) sent.before_ (is.identifier ∙ sym sent.identifier) (omega (arith, sent.identifier, low)))
          | inr (inr second) ↦
              absurd (twice o opened sent.sent s sent.among has second (omega (arith, sent.after, opens-by)) until (sent.identifier ∙ sym is.identifier) (omega (arith, is.identifier, low)))
        ]

    -- what starts in the cycle has ended by the next one
    pub ended-by : (s : TimedFrame) → Contains trace s → begin ≤ s.start → s.start < finish → end_of s ≤ finish
    ended-by s has from until = elim (cases_lt s.start window_) [
      | inl early_ ↦ omega (arith, fresh-window s has from early_, window-in)
      | inr late_ ↦ slot-ends s has late_ until
    ]
