-- What a run owes is served: each instance whose last cycle was run, and nothing else in its slot.
use Rattle.std.proofs.Common.{◌≡◌, ℕ, ◌+◌, ◌*◌, ◌<◌, ◌≤◌, ◌⊎◌, ◌&&◌, Bool, true, false, eqb, leb, List, [], ◌∷◌, ◌++◌, get_or, Option, Some, All, Contains, IsSome, refl, ap, sym, ◌∙◌, arith, subst, inl, inr}
use Rattle.std.specs.Prelude.{option_map, IfSome}
use Rattle.std.proofs.lemmas.Bool.{cases_eq, eq-eqb, ne_eqb, le-leb, leb-true, and_from, and_left, and_right, and_parts, false_from_ne_true}
use Rattle.std.proofs.lemmas.List.Elements.{All-contains, Contains-append_cases, Contains-get_or, filter-append}
use Rattle.std.proofs.Math.Nat.{div-lt_iff_lt-mul, div-eq_of_lt-le}
use Rattle.profile.specs.Limits.{first_identifier}
use Rattle.can_frame.specs.declared.data_frame.TimedFrame.{TimedFrame}
use Rattle.cycle_layout.specs.Layout.{CycleLayout}
use Rattle.requirement_table.specs.declared.entries.Placed.{Placed}
use Rattle.requirement_table.specs.Flags.{IsFlaggedOnce}
use Rattle.requirement_table.specs.Instance.{Instance, MaySend, bytes_of, release_of}
use Rattle.requirement_table.specs.Opening.{Opening, width_of}
use Rattle.bit_sets.specs.Sets.{has_bit, most_slots}
use Rattle.requirement_table.specs.Table.{IsInRange, instance_in}
use Rattle.requirement_table.proofs.Shared.{instance_in-found, instance_in-sound}
use Rattle.planner_policies.specs.Plan.{Planning, flags_of, mask_at}
use Rattle.admission_rules.specs.declared.Rules.{Rules}
use Rattle.master_core.specs.History.{plan_of}
use Rattle.trigger_kind.specs.Kind.{greatest_trigger}
use Rattle.trigger_codec.proofs.Shared.{behind-ids, sent-low}
use Rattle.cycle_engine.specs.Cycle.{IsRequestFrame, IsSentOnce, IsSlotFrame, RunsCycle, RunsCycles, cycle_of, frames_in, of_slot}
use Rattle.kept_run.specs.Served.{AllGuarded, AllServed, ForgetsEnds, IsSentInWindow, NoStrangers, frames_of}
use Rattle.kept_run.proofs.Lists.{Contains-filter, Contains-nil, filter-filter, filter-none, filter-same, place-of}
use Rattle.kept_run.proofs.Opened.{AreOpenedBy}
use Rattle.kept_run.proofs.Plans.{mask-planned, mask-sendable, planned_once}

-- The frames of one cycle

-- a frame that may come behind the trigger frames of its cycle
abbrev IsLaterFrame : CycleLayout → Opening → TimedFrame → Type 0
IsLaterFrame layout opening sent = IsRequestFrame layout opening sent ⊎ IsSlotFrame layout opening sent

module _ {sends : Instance → List ℕ} (layout : CycleLayout) (opening : Opening) (frames : List TimedFrame) (runs : RunsCycle sends layout opening frames) where
  -- the first trigger frame has identifier 0, and those behind it have others
  pub trigger_identifier : runs.trigger.frame.identifier ≡ 0
  trigger_identifier = ap (λ f. f.identifier) runs.is_trigger

  pub second_identifiers : All (λ sent. 0 < sent.frame.identifier) runs.second
  second_identifiers =
      behind-ids layout.slots opening.cycle (width_of opening) opening.mask runs.trigger runs.second runs.are_triggers

  -- the frames of the cycle are its trigger frames, and those behind them
  abbrev triggers : List TimedFrame
  triggers = runs.trigger ∷ runs.second

  split : frames ≡ triggers ++ runs.later
  split = runs.all_frames

  low : All (λ sent. sent.frame.identifier ≤ greatest_trigger) triggers
  low = sent-low layout.slots opening.cycle (width_of opening) opening.mask triggers runs.are_triggers

  first_or_later : (sent : TimedFrame) → Contains frames sent → (sent.frame.identifier ≤ greatest_trigger) ⊎ Contains runs.later sent
  first_or_later sent among = elim (Contains-append_cases triggers runs.later sent (subst (λ l. Contains l sent) split among)) [
    | inl trigger ↦ inl (All-contains (λ s. s.frame.identifier ≤ greatest_trigger) triggers sent low trigger)
    | inr later ↦ inr later
  ]

  -- the frames of a slot in the cycle are those behind its trigger frames
  of_slot-cycle : (slot : ℕ) → of_slot slot frames ≡ of_slot slot runs.later
  of_slot-cycle slot =
      let is_slot : TimedFrame → Bool = λ s. eqb s.frame.identifier (first_identifier + slot) in
      let none : of_slot slot triggers ≡ [] =
      filter-none is_slot triggers (λ k d within. ne_eqb _ _ (λ same. omega (arith, same, low k d within))) in
      ap (of_slot slot) split ∙ filter-append is_slot triggers runs.later ∙ ap (λ l. l ++ of_slot slot runs.later) none

  -- a slot that is not flagged sends nothing in the cycle
  nothing_sent : (slot : ℕ) (sent : TimedFrame) → slot < most_slots → has_bit opening.mask slot ≡ false
      → Contains frames sent → sent.frame.identifier ≡ first_identifier + slot → ⊥
  nothing_sent slot sent known unflagged among same =
      let kept : Contains (of_slot slot frames) sent = Contains-filter (λ s. eqb s.frame.identifier (first_identifier + slot)) frames sent among (eq-eqb _ _ same) in
      Contains-nil sent (subst (λ l. Contains l sent) (of_slot-cycle slot ∙ runs.none slot known unflagged) kept)

  -- the frame that a slot sends in the cycle lies in its window
  in_window : (openings : List Opening) (slot : ℕ) → 0 < layout.cycle → Contains openings opening
      → (sent : IsSentOnce sends layout opening runs.later slot) → IsSentInWindow layout openings sent.sent
  in_window openings slot some_time opened sent = grind (arith, div-eq_of_lt-le)

-- Instances with and without ends

pub bytes_of-forgets : ForgetsEnds bytes_of
bytes_of-forgets instance = refl

some-of : {X : Type 0} (o : Option X) → IsSome o → (x : X) × (o ≡ Some x)
some-of o is = grind arith

-- The run of opened cycles

-- the trace runs the openings, which are of the cycles below `next`, with the plan of this list
pub record IsRunOf (sends : Instance → List ℕ) (rules : Rules) (layout : CycleLayout) (placed : List Placed) (next : ℕ) (openings : List Opening) (trace : List TimedFrame) : Type 0 where
  pub some_time : 0 < layout.cycle
  pub opened : AreOpenedBy rules placed next openings
  pub within : All (λ sent. sent.start < next * layout.cycle) trace
  pub cycles : RunsCycles sends layout openings trace

module _ (sends : Instance → List ℕ) (rules : Rules) (layout : CycleLayout) (placed : List Placed) (next : ℕ) (openings : List Opening) (trace : List TimedFrame)
    (run : IsRunOf sends rules layout placed next openings trace) where
  abbrev plan : Planning
  plan = plan_of rules placed

  -- an opened cycle is run
  runs-opening : (o : Opening) → Contains openings o → RunsCycle sends layout o (frames_in layout o.cycle trace)
  runs-opening o opened = All-contains (λ x. RunsCycle sends layout x (frames_in layout x.cycle trace)) openings o run.cycles opened

  -- the flags of an opened cycle are those of the plan
  flagged-as_planned : (o : Opening) (slot : ℕ) → Contains openings o → slot < most_slots → has_bit o.mask slot ≡ flags_of plan o.cycle slot
  flagged-as_planned o slot opened known = grind (arith, mask-planned)

  -- a frame of the trace is among those of its cycle
  in-its_cycle : (o : Opening) (sent : TimedFrame) → o.cycle ≡ cycle_of layout sent → Contains trace sent → Contains (frames_in layout o.cycle trace) sent
  in-its_cycle o sent cycle among = Contains-filter (λ s. eqb (cycle_of layout s) o.cycle) trace sent among (eq-eqb _ _ (sym cycle))

  -- what a slot sends in the cycles of an instance that is flagged once is what it sends in that cycle
  sent_in-that_cycle : (p : Placed) (k last : ℕ) (o : Opening) → p.entry.slot < most_slots → last < next → Contains openings o
      → (once : IsFlaggedOnce (flags_of plan) p.entry.slot (release_of p k) last) → o.cycle ≡ once.cycle
      → frames_of layout (first_identifier + p.entry.slot) (release_of p k) last trace ≡ of_slot p.entry.slot (frames_in layout o.cycle trace)
  sent_in-that_cycle p k last o known early opened once cycle =
      let slot : ℕ = p.entry.slot in
      let release : ℕ = release_of p k in
      let is_slot : TimedFrame → Bool = λ s. eqb s.frame.identifier (first_identifier + slot) in
      let in_cycles : TimedFrame → Bool = λ s. leb release (cycle_of layout s) && leb (cycle_of layout s) last in
      let agree : (s : TimedFrame) → Contains trace s → (is_slot s && in_cycles s) ≡ (eqb (cycle_of layout s) o.cycle && is_slot s) = λ s among.
      elim (cases_eq s.frame.identifier (first_identifier + slot)) [
        | inr other ↦ and_left _ _ (ne_eqb _ _ other) ∙ sym (and_right _ _ (ne_eqb _ _ other))
        | inl same ↦ elim (cases_eq (cycle_of layout s) o.cycle) [
          | inl here ↦ and_from _ _ (eq-eqb _ _ same) (and_from _ _ (le-leb release (cycle_of layout s) (omega arith)) (le-leb (cycle_of layout s) last (omega arith)))
              ∙ sym (and_from _ _ (eq-eqb _ _ here) (eq-eqb _ _ same))
          | inr elsewhere ↦
              and_right (is_slot s) _ (false_from_ne_true _ (λ within.
              let parts = and_parts (leb release (cycle_of layout s)) _ within in
              let in_time : cycle_of layout s ≤ last = leb-true _ _ parts.1 in
              let other = run.opened.opened (cycle_of layout s) (omega arith) in
              let unflagged : has_bit other.0.mask slot ≡ false = false_from_ne_true _ (λ flagged. grind (arith, flagged-as_planned)) in
              nothing_sent layout other.0 _ (runs-opening other.0 other.1) slot s known unflagged (in-its_cycle other.0 s other.2 among) same))
              ∙ sym (and_left _ _ (ne_eqb _ _ elsewhere))
        ]
      ] in
      filter-same (λ s. is_slot s && in_cycles s) (λ s. eqb (cycle_of layout s) o.cycle && is_slot s) trace agree
      ∙ sym (filter-filter is_slot (λ s. eqb (cycle_of layout s) o.cycle) trace)

  -- the bytes that the slot sends in an opened cycle in which the instance may be sent
  bytes-sent : ForgetsEnds sends → (p : Placed) (k : ℕ) (o : Opening) → Contains openings o → Contains placed p → MaySend p k o.cycle
      → option_map sends (instance_in o.placed p.entry.slot o.cycle) ≡ Some (sends (record { placed = p; number = k }))
  bytes-sent forgets p k o opened stands may_send =
      let place = place-of placed p stands in
      grind (arith, instance_in-found)

  -- every instance whose last cycle was run is served
  pub all_served : ForgetsEnds sends → AllServed sends layout placed openings next trace
  all_served forgets p k last stands exists is_last early =
      let known = (All-contains IsInRange placed p run.opened.well.in_range stands).entry.slot in
      let slot : ℕ = p.entry.slot in
      let once = planned_once rules placed run.opened.well run.opened.in_time next p k last stands exists is_last early in
      let opened = run.opened.opened once.cycle (omega arith) in
      let o : Opening = opened.0 in
      let cycle : o.cycle ≡ once.cycle = opened.2 in
      let flagged : has_bit o.mask slot ≡ true =
      flagged-as_planned o slot opened.1 known ∙ ap (λ c. flags_of plan c slot) cycle ∙ once.flagged in
      let runs = runs-opening o opened.1 in
      let sent = runs.each slot known flagged in
      let bytes = bytes-sent forgets p k o opened.1 stands (record { exists = exists; released = omega arith; in_time = omega arith }) in
      let carries : Some (sends (record { placed = p; number = k })) ≡ Some sent.sent.frame.bytes = sym bytes ∙ sent.carries in
      record {
        sent = sent.sent;
        once = sent_in-that_cycle p k last o known early opened.1 once cycle ∙ of_slot-cycle layout o _ runs slot ∙ sent.once;
        in_window = in_window layout o _ runs openings slot run.some_time opened.1 sent;
        carries = cc;
      }

  -- what a frame of the trace is
  record IsFrameOf (sent : TimedFrame) : Type 0 where
    opening : Opening
    opened : Contains openings opening
    cycle : opening.cycle ≡ cycle_of layout sent
    is : (sent.frame.identifier ≤ greatest_trigger) ⊎ IsLaterFrame layout opening sent

  frame-of : (sent : TimedFrame) → Contains trace sent → IsFrameOf sent
  frame-of sent among =
      let started : sent.start < next * layout.cycle = All-contains (λ s. s.start < next * layout.cycle) trace sent run.within among in
      let opened = run.opened.opened (cycle_of layout sent) ((div-lt_iff_lt-mul {k = layout.cycle} {x = sent.start} {y = next} run.some_time).1 started) in
      let o : Opening = opened.0 in
      let runs = runs-opening o opened.1 in
      record {
        opening = o;
        opened = opened.1;
        cycle = opened.2;
        is = elim (first_or_later layout o _ runs sent (in-its_cycle o sent opened.2 among)) [
          | inl trigger ↦ inl trigger
          | inr later ↦ inr (All-contains (IsLaterFrame layout o) runs.later sent runs.all later)
        ];
      }

  -- no frame of a request touches a trigger part or a synchronous window
  pub all_guarded : AllGuarded layout openings trace
  all_guarded k d here request =
      let sent : TimedFrame = get_or trace k d in
      let frame = frame-of sent (Contains-get_or trace k d here) in
      grind arith

  -- a frame with the identifier of a slot is sent where the slot is flagged
  slot-flagged : (o : Opening) (sent : TimedFrame) (slot : ℕ) → slot < most_slots → sent.frame.identifier ≡ first_identifier + slot
      → (sent.frame.identifier ≤ greatest_trigger) ⊎ IsLaterFrame layout o sent → has_bit o.mask slot ≡ true
  slot-flagged o sent slot known same is = grind arith

  -- nothing else is sent in a slot
  pub no_strangers : NoStrangers layout placed trace
  no_strangers slot known k d here same =
      let sent : TimedFrame = get_or trace k d in
      let frame = frame-of sent (Contains-get_or trace k d here) in
      let o : Opening = frame.opening in
      let mask : o.mask ≡ mask_at plan o.cycle = All-contains (λ x. x.mask ≡ mask_at plan x.cycle) openings o run.opened.masks frame.opened in
      let flagged : has_bit (mask_at plan o.cycle) slot ≡ true = ap (λ m. has_bit m slot) (sym mask) ∙ slot-flagged o sent slot known same frame.is in
      let some = some-of (instance_in placed slot o.cycle) (mask-sendable rules placed run.opened.well run.opened.in_time o.cycle slot flagged) in
      let may_send = subst (λ x. IfSome x (λ y. Contains placed y.placed × (y.placed.entry.slot ≡ slot) × MaySend y.placed y.number o.cycle)) some.1 (instance_in-sound placed slot o.cycle) in
      grind arith
