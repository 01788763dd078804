-- What a cycle sends: frames of requests that end before its synchronous window, and in that window each pending slot,
-- one after the other without a gap.
use Rattle.std.proofs.Common.{◌≡◌, ℕ, zero, suc, ◌+◌, ◌*◌, ◌<◌, ◌≤◌, ◌⊎◌, eqb, true, false, Option, Some, List, [], ◌∷◌, ◌++◌, length, map, append-nil, refl, ap, sym, ◌∙◌, arith, subst, inl, inr}
use Rattle.std.proofs.lemmas.Grind.{common_steps}
use Rattle.std.specs.Prelude.{option_map}
use Rattle.std.specs.Option.{option_map_or}
use Rattle.std.specs.List.{All, AllByRecursion}
use Rattle.std.proofs.Math.Bool.{and-true}
use Rattle.std.proofs.lemmas.Bool.{cases_eq, cases_lt, both_ways, and_from, and_parts, not-true, not_from_false, ne_eqb, cond-false}
use Rattle.std.proofs.lemmas.List.{length-map}
use Rattle.std.proofs.lemmas.List.Elements.{All-cons, All-from_recursion, All-head, All-tail}
use Rattle.std.proofs.lemmas.Option.{none-some, same_Some}
use Rattle.profile.specs.Limits.{first_identifier}
use Rattle.can_frame.specs.DataFrame.{DataFrame}
use Rattle.can_frame.specs.declared.data_frame.TimedFrame.{TimedFrame}
use Rattle.can_frame.specs.Wire.{wire_length}
use Rattle.can_frame.proofs.Shared.{wire-most}
use Rattle.trigger_kind.specs.Kind.{greatest_trigger}
use Rattle.cycle_layout.specs.Layout.{CycleLayout, async_open, trigger_part}
use Rattle.bit_sets.specs.Sets.{has_bit, most_slots}
use Rattle.requirement_table.specs.Instance.{Instance, bytes_of, payload, worst, worst_of}
use Rattle.requirement_table.specs.Table.{instance_in, worst_in}
use Rattle.bit_sets.proofs.Shared.{sum_where-same}
use Rattle.async_window.specs.declared.request.Request.{Request}
use Rattle.bus_line.specs.Trace.{end_of, Follows, IsNext, free_after}
use Rattle.requirement_table.specs.Opening.{Opening, width_of}
use Rattle.node_model.specs.Opening.{start_of, end_of_cycle, window_start}
use Rattle.node_model.specs.Offered.{OffersRequest, OffersSlot, bytes_sent, trigger_frames}
use Rattle.cycle_engine.specs.Cycle.{AreAtOnce, IsRequestFrame, IsSentOnce, IsSlotFrame, RunsCycle, of_slot}
use Rattle.cycle_engine.specs.Offered.{AreAsynchronous, SendsWhole, offered_in}
use Rattle.cycle_engine.proofs.Lists.{All-from_map}
use Rattle.cycle_engine.proofs.OneTrace.{is_asynchronous, request_id}
use Rattle.cycle_engine.proofs.TriggerFrames.{AreLeft-all, AtOnce, NoTrigger, NoTrigger-more, NoTrigger-sent, cut-left, frames_long, frames_short, free_after-later, low_ids}
use Rattle.cycle_engine.proofs.Pending.{IsUnsent-from_test, is_pending, is_pending-other, is_pending-sent, pending_width, was_sent-from_unsent}
use Rattle.bit_sets.proofs.Shared.{sum_where-member, sum_where-without}

-- a frame that may come behind the trigger of its cycle
abbrev pub IsLaterFrame : CycleLayout → Opening → TimedFrame → Type 0
IsLaterFrame layout opening sent = IsRequestFrame layout opening sent ⊎ IsSlotFrame layout opening sent

-- what makes a cycle one in which each flagged slot has its frame and its time
pub record IsFit (layout : CycleLayout) (opening : Opening) : Type 0 where
  pub present : (slot : ℕ) → slot < most_slots → has_bit opening.mask slot ≡ true → (i : Instance) × (instance_in opening.placed slot opening.cycle ≡ Some i)
  pub room : start_of layout opening + trigger_part layout + width_of opening ≤ end_of_cycle layout opening

-- a pending slot takes at least 55 bit times of the width
pending_width-positive : (layout : CycleLayout) (opening : Opening) (past : List TimedFrame) (slot : ℕ) → IsFit layout opening
    → slot < most_slots → is_pending layout opening past slot ≡ true → 55 ≤ pending_width layout opening past
pending_width-positive layout opening past slot fit known pending =
    let flagged = (and_parts (has_bit opening.mask slot) _ pending).0 in
    let p = fit.present slot known flagged in
    let cost : worst_in opening.placed opening.cycle slot ≡ worst_of p.0 = ap (λ o. option_map_or worst_of o 0) p.1 in
    let member = sum_where-member most_slots slot (is_pending layout opening past) (worst_in opening.placed opening.cycle) known pending in
    omega arith

-- one slot less
pending_width-sent : (layout : CycleLayout) (opening : Opening) (past : List TimedFrame) (sent : TimedFrame) (slot : ℕ)
    → slot < most_slots → is_pending layout opening past slot ≡ true
    → sent.frame.identifier ≡ first_identifier + slot → start_of layout opening ≤ sent.start
    → pending_width layout opening (past ++ sent ∷ []) + worst_in opening.placed opening.cycle slot ≡ pending_width layout opening past
pending_width-sent layout opening past sent slot known pending same late =
    sum_where-without most_slots slot (is_pending layout opening past) (is_pending layout opening (past ++ sent ∷ [])) (worst_in opening.placed opening.cycle) known pending
    (is_pending-sent layout opening past sent slot same late)
    (λ x _ ne. is_pending-other layout opening past sent x (λ same_x. ne (omega arith)))

of_slot-other : (slot : ℕ) (sent : TimedFrame) (later : List TimedFrame) → (sent.frame.identifier ≡ first_identifier + slot → ⊥)
    → of_slot slot (sent ∷ later) ≡ of_slot slot later
of_slot-other slot sent later other = cond-false (eqb sent.frame.identifier (first_identifier + slot)) _ _ (ne_eqb _ _ other)

-- a payload has as many bytes as the entry's frames
length-payload : (n k : ℕ) → length (payload n k) ≡ n
length-payload zero k = refl
length-payload (suc n) k = ap suc (length-payload n k)

pub bytes_of-whole : SendsWhole bytes_of
bytes_of-whole i = length-payload i.placed.entry.length i.number

-- the frame of a request, and its time
record RequestTimes (layout : CycleLayout) (opening : Opening) (at : ℕ) (frame : DataFrame) : Type 0 where
  identifier : 0x200 ≤ frame.identifier
  after : async_open layout opening.cycle ≤ at
  before : at + wire_length frame ≤ window_start layout opening

request_frame : (layout : CycleLayout) (requests : List Request) (opening : Opening) (past : List TimedFrame) (at : ℕ) (frame : DataFrame)
    → AreAsynchronous requests → OffersRequest layout requests opening past at frame → RequestTimes layout opening at frame
request_frame layout requests opening past at frame asynchronous offer =
    let request : Request = offer.request in
    let least = is_asynchronous requests past frame.identifier request asynchronous offer.may_start.waiting.first in
    grind (arith, wire-most)

-- an asynchronous frame leaves the pending slots as they are
pending_width-other : (layout : CycleLayout) (opening : Opening) (past : List TimedFrame) (sent : TimedFrame) → 0x200 ≤ sent.frame.identifier
    → pending_width layout opening (past ++ sent ∷ []) ≡ pending_width layout opening past
pending_width-other layout opening past sent least = grind (arith, sum_where-same, is_pending, is_pending-other)

-- behind trigger frames that are sent first, a slot is pending where it is flagged
is_pending-at_start : (layout : CycleLayout) (opening : Opening) (past sent : List TimedFrame) (slot : ℕ)
    → All (λ x. x.start < start_of layout opening) past → All (λ x. x.frame.identifier ≤ greatest_trigger) sent
    → is_pending layout opening (past ++ sent) slot ≡ has_bit opening.mask slot
is_pending-at_start layout opening past sent slot before low = grind (arith, common_steps, was_sent-from_unsent, and-true)

-- when the trigger frames end, one at once behind the other
ends-by : (free : ℕ) (sent : List TimedFrame) → AtOnce free sent → All (λ x. wire_length x.frame ≤ 135) sent → free_after free sent ≤ free + length sent * 135
ends-by free [] at_once short = omega arith
ends-by free (sent ∷ later) (starts, at_once) short =
    let long = All-head (λ x. wire_length x.frame ≤ 135) sent later short in
    omega (arith, starts.start, starts.whole, long, ends-by (end_of sent) later at_once (All-tail (λ x. wire_length x.frame ≤ 135) sent later short))

each-ends : (free : ℕ) (sent : List TimedFrame) → AtOnce free sent → All (λ x. end_of x ≤ free_after free sent) sent
each-ends free [] at_once = λ k d within. absurd (omega arith)
each-ends free (sent ∷ later) (starts, at_once) =
    All-cons (λ x. end_of x ≤ free_after (end_of sent) later) sent later (free_after-later (end_of sent) later at_once) (each-ends (end_of sent) later at_once)

-- so they start, as the definition of a cycle says it, and the other way round
starts-of : (free : ℕ) (sent : List TimedFrame) → AtOnce free sent → AreAtOnce free sent
starts-of free [] at_once = tt
starts-of free (sent ∷ later) (starts, at_once) = (starts.start, starts-of (end_of sent) later at_once)

at_once-of : (free : ℕ) (sent : List TimedFrame) → All (λ x. x.len ≡ wire_length x.frame) sent → AreAtOnce free sent → AtOnce free sent
at_once-of free [] whole start = tt
at_once-of free (sent ∷ later) whole (start, starts) = (
  record { start = start; whole = All-head (λ x. x.len ≡ wire_length x.frame) sent later whole },
  at_once-of (end_of sent) later (All-tail (λ x. x.len ≡ wire_length x.frame) sent later whole) starts,
)

-- what holds of the frames that are sent
of-sent : (P : DataFrame → Type 0) (sent : List TimedFrame) (frames : List DataFrame) → map (λ s. s.frame) sent ≡ frames → All P frames → All (λ s. P s.frame) sent
of-sent P sent frames are all = All-from_map (λ s. s.frame) P sent (subst (All P) (sym are) all)

-- the trigger frames of a cycle end within the trigger part
pub triggers-in_part : {sends : Instance → List ℕ} (layout : CycleLayout) (opening : Opening) (frames : List TimedFrame)
    (runs : RunsCycle sends layout opening frames) → All (λ x. x.len ≡ wire_length x.frame) (runs.trigger ∷ runs.second)
    → All (λ x. end_of x ≤ start_of layout opening + trigger_part layout) (runs.trigger ∷ runs.second)
triggers-in_part layout opening frames runs whole =
    let sent : List TimedFrame = runs.trigger ∷ runs.second in
    let start : ℕ = start_of layout opening in
    let at_once = at_once-of start sent whole (runs.starts, runs.at_once) in
    let short = of-sent (λ f. wire_length f ≤ 135) sent (trigger_frames layout opening) runs.are_triggers
    (frames_short layout.slots opening.cycle (width_of opening) opening.mask) in
    let long : length sent ≡ length (trigger_frames layout opening) = sym (length-map sent (λ s. s.frame)) ∙ ap length runs.are_triggers in
    λ k d within.
    omega (
      arith,
      each-ends start sent at_once k d within,
      ends-by start sent at_once short,
      ap (λ n. n * 135) long,
      frames_long layout.slots opening.cycle (width_of opening) opening.mask,
    )

-- Each instance sends as many bytes as its entry's length
module _ (sends : Instance → List ℕ) (whole : SendsWhole sends) where
  -- these frames, after the frames `past`, send each pending slot once and no other slot
  record SendsPending (layout : CycleLayout) (opening : Opening) (past frames : List TimedFrame) : Type 0 where
    each : (slot : ℕ) → slot < most_slots → is_pending layout opening past slot ≡ true → IsSentOnce sends layout opening frames slot
    none : (slot : ℕ) → slot < most_slots → is_pending layout opening past slot ≡ false → of_slot slot frames ≡ []
    all : AllByRecursion (IsLaterFrame layout opening) frames

  -- a pending slot is offered at any time in the window
  offers_pending : (layout : CycleLayout) (opening : Opening) (past : List TimedFrame) (slot at : ℕ) → IsFit layout opening
      → slot < most_slots → is_pending layout opening past slot ≡ true → window_start layout opening ≤ at → at < end_of_cycle layout opening
      → (frame : DataFrame) × OffersSlot sends layout opening past at frame slot
  offers_pending layout opening past slot at fit known pending late early =
      let parts = and_parts (has_bit opening.mask slot) _ pending in
      let p = fit.present slot known parts.0 in (
        record { identifier = first_identifier + slot; bytes = sends p.0 },
        record {
          begun = (let room = fit.room in omega arith);
          late_enough = late;
          within = early;
          known = known;
          flagged = parts.0;
          unsent = IsUnsent-from_test layout opening past slot (not-true _ parts.1);
          identifier = refl;
          bytes = ap (option_map sends) p.1;
        },
      )

  -- an offered slot is pending
  pending-offered : (layout : CycleLayout) (opening : Opening) (past : List TimedFrame) (at slot : ℕ) (frame : DataFrame)
      → OffersSlot sends layout opening past at frame slot → is_pending layout opening past slot ≡ true
  pending-offered layout opening past at slot frame o = grind (arith, and_from, not_from_false, was_sent-from_unsent)

  -- what a slot costs, by the bytes that it sends
  cost-of : (o : Option Instance) (bytes : List ℕ) → option_map sends o ≡ Some bytes → option_map_or worst_of o 0 ≡ worst (length bytes)
  cost-of o bytes is = grind (arith, none-some, same_Some)

  -- the frame of a slot takes no more than the slot costs
  pub slot-in_time : (opening : Opening) (slot : ℕ) (frame : DataFrame) → bytes_sent sends opening slot ≡ Some frame.bytes → wire_length frame ≤ worst_in opening.placed opening.cycle slot
  slot-in_time opening slot frame bytes = grind (arith, cost-of, wire-most)

  -- the next frame of the window starts as soon as the bus is free and the window has begun
  starts_now : (layout : CycleLayout) (requests : List Request) (opening : Opening) (past : List TimedFrame) (free now : ℕ) (sent : TimedFrame) (slot : ℕ)
      → IsFit layout opening → free ≤ now → window_start layout opening ≤ now → (now ≡ free) ⊎ (now ≡ window_start layout opening)
      → IsNext (offered_in sends layout requests opening) past free (end_of_cycle layout opening) sent
      → OffersSlot sends layout opening past sent.start sent.frame slot → sent.start ≡ now
  starts_now layout requests opening past free now sent slot fit is_free in_window which next offer =
      grind (arith, cases_lt, pending-offered, offers_pending)

  -- the frame that starts now, and those after it
  joined : (layout : CycleLayout) (opening : Opening) (past : List TimedFrame) (sent : TimedFrame) (slot : ℕ) (later : List TimedFrame)
      → OffersSlot sends layout opening past sent.start sent.frame slot → is_pending layout opening past slot ≡ true
      → start_of layout opening ≤ sent.start → end_of sent ≤ end_of_cycle layout opening
      → SendsPending layout opening (past ++ sent ∷ []) later → SendsPending layout opening past (sent ∷ later)
  joined layout opening past sent slot later offer pending late ends rest =
      let sent_now = is_pending-sent layout opening past sent slot offer.identifier late in
      record {
        each = λ x known is_pending_x.
            elim (cases_eq x slot) [
              | inl e ↦ record {
                sent = sent;
                once = grind (arith, common_steps);
                after = offer.late_enough;
                within = offer.within;
                before = ends;
                carries = subst (λ k. bytes_sent sends opening k ≡ Some sent.frame.bytes) (sym e) offer.bytes;
              }
              | inr ne ↦
                  let other : sent.frame.identifier ≡ first_identifier + x → ⊥ = λ same. ne (let is = offer.identifier in omega arith) in
                  let still : is_pending layout opening (past ++ sent ∷ []) x ≡ true = is_pending-other layout opening past sent x other ∙ is_pending_x in
                  let found = rest.each x known still in
                  record {
                    sent = found.sent;
                    once = of_slot-other x sent later other ∙ found.once;
                    after = found.after;
                    within = found.within;
                    before = found.before;
                    carries = found.carries;
                  }
            ];
        none = grind (arith, common_steps, both_ways, is_pending, of_slot-other, is_pending-other);
        all = (grind arith);
      }

  -- an asynchronous frame, and those after it
  joined-asynchronous : (layout : CycleLayout) (opening : Opening) (past : List TimedFrame) (sent : TimedFrame) (later : List TimedFrame)
      → IsRequestFrame layout opening sent → SendsPending layout opening (past ++ sent ∷ []) later → SendsPending layout opening past (sent ∷ later)
  joined-asynchronous layout opening past sent later frame rest = grind (arith, is_pending, is_pending-other, of_slot-other)

  -- the frames behind the trigger frames: from the time `now` on, at which the bus is free and the synchronous window has begun,
  -- the pending slots have room until the cycle's end, and so each is sent by then
  sends_pending : (layout : CycleLayout) (requests : List Request) (opening : Opening) (past : List TimedFrame) (free now : ℕ) (frames : List TimedFrame)
      → IsFit layout opening → AreAsynchronous requests → NoTrigger layout opening past → start_of layout opening ≤ free → free ≤ now → window_start layout opening ≤ now
      → (now ≡ free) ⊎ (now ≡ window_start layout opening)
      → now + pending_width layout opening past ≤ end_of_cycle layout opening
      → Follows (offered_in sends layout requests opening) past free (end_of_cycle layout opening) frames
      → SendsPending layout opening past frames
  sends_pending layout requests opening past free now [] fit asynchronous no_trigger begun is_free in_window which room nothing = record {
    each = λ slot known pending.
        let wide = pending_width-positive layout opening past slot fit known pending in
        let offer = offers_pending layout opening past slot now fit known pending in_window (omega arith) in
        absurd (nothing now offer.0 is_free (omega arith) (inr (inr (slot, offer.1))));
    none = λ slot known not_pending. refl;
    all = tt;
  }
  sends_pending layout requests opening past free now (sent ∷ later) fit asynchronous no_trigger begun is_free in_window which room follows =
      let later_start = follows.0.when_free in
      elim follows.0.least.offered as (λ _. SendsPending layout opening past (sent ∷ later)) [
        | inl trigger ↦ absurd (no_trigger sent.start sent.frame trigger)
        | inr choice ↦ elim choice as (λ _. SendsPending layout opening past (sent ∷ later)) [
          | inl request ↦
              let frame = request_frame layout requests opening past sent.start sent.frame asynchronous request in
              let before = frame.before in
              let at_window : now ≡ window_start layout opening = elim which [ inl e ↦ absurd (omega arith) | inr e ↦ e ] in
              let same = pending_width-other layout opening past sent frame.identifier in
              let rest = sends_pending layout requests opening (past ++ sent ∷ []) (end_of sent) now later fit asynchronous
              (NoTrigger-more layout opening past (sent ∷ []) no_trigger) (omega arith) (omega arith) in_window (inr at_window) (omega arith) follows.1 in
              joined-asynchronous layout opening past sent later
              (record { identifier = frame.identifier; after = frame.after; before = (let b = frame.before in omega arith) }) rest
          | inr of_slot ↦
              let slot : ℕ = of_slot.0 in
              let offer : OffersSlot sends layout opening past sent.start sent.frame slot = of_slot.1 in
              let pending = pending-offered layout opening past sent.start slot sent.frame offer in
              let wide = pending_width-positive layout opening past slot fit offer.known pending in
              let at_now : sent.start ≡ now = starts_now layout requests opening past free now sent slot fit is_free in_window which follows.0 offer in
              let late : start_of layout opening ≤ sent.start = omega arith in
              let less = pending_width-sent layout opening past sent slot offer.known pending offer.identifier late in
              let in_time = slot-in_time opening slot sent.frame offer.bytes in
              let rest = sends_pending layout requests opening (past ++ sent ∷ []) (end_of sent) (end_of sent) later fit asynchronous
              (NoTrigger-more layout opening past (sent ∷ []) no_trigger) (omega arith) (omega arith) (omega arith) (inl refl) (omega arith) follows.1 in
              joined layout opening past sent slot later offer pending late (omega arith) rest
        ]
      ]

  -- what a cycle sends, by its frames behind the trigger frames
  cycle-of : (layout : CycleLayout) (requests : List Request) (opening : Opening) (past frames : List TimedFrame) → IsFit layout opening → AreAsynchronous requests
      → All (λ x. x.start < start_of layout opening) past
      → (sent later : List TimedFrame) → frames ≡ sent ++ later → map (λ s. s.frame) sent ≡ trigger_frames layout opening → AtOnce (start_of layout opening) sent
      → NoTrigger layout opening (past ++ sent)
      → Follows (offered_in sends layout requests opening) (past ++ sent) (free_after (start_of layout opening) sent) (end_of_cycle layout opening) later
      → RunsCycle sends layout opening frames
  cycle-of layout requests opening past frames fit asynchronous before [] later split are at_once no_trigger follows = absurd (cc)
  cycle-of layout requests opening past frames fit asynchronous before (trigger ∷ second) later split are at_once no_trigger follows =
      let sent : List TimedFrame = trigger ∷ second in
      let start : ℕ = start_of layout opening in
      let free : ℕ = free_after start sent in
      let low = of-sent (λ f. f.identifier ≤ greatest_trigger) sent (trigger_frames layout opening) are (low_ids layout.slots opening.cycle (width_of opening) opening.mask) in
      let short = of-sent (λ f. wire_length f ≤ 135) sent (trigger_frames layout opening) are (frames_short layout.slots opening.cycle (width_of opening) opening.mask) in
      let long : length sent ≡ length (trigger_frames layout opening) = sym (length-map sent (λ s. s.frame)) ∙ ap length are in
      let room : free + width_of opening ≤ end_of_cycle layout opening =
      omega (arith, ends-by start sent at_once short, ap (λ n. n * 135) long, frames_long layout.slots opening.cycle (width_of opening) opening.mask, fit.room) in
      let ended : All (λ x. end_of x ≤ window_start layout opening) sent = λ k d within. omega (arith, each-ends start sent at_once k d within, room) in
      let pending : (slot : ℕ) → is_pending layout opening (past ++ sent) slot ≡ has_bit opening.mask slot =
      λ slot. is_pending-at_start layout opening past sent slot before low in
      let width : pending_width layout opening (past ++ sent) ≡ width_of opening =
      sum_where-same most_slots (is_pending layout opening (past ++ sent)) (has_bit opening.mask) (worst_in opening.placed opening.cycle) (λ slot _. pending slot) in
      let late : start ≤ free = free_after-later start sent at_once in
      let window = sends_pending layout requests opening (past ++ sent) free (window_start layout opening) later fit asynchronous no_trigger
      late (omega (arith, room)) (omega arith) (inr refl) (omega (arith, width, room)) follows in
      record {
        trigger = trigger;
        second = second;
        later = later;
        all_frames = split;
        starts = at_once.0.start;
        is_trigger = cc;
        ends = All-head (λ x. end_of x ≤ window_start layout opening) trigger second ended;
        are_triggers = are;
        at_once = starts-of (end_of trigger) second at_once.1;
        second_ends = All-tail (λ x. end_of x ≤ window_start layout opening) trigger second ended;
        each = λ slot known flagged. window.each slot known (pending slot ∙ flagged);
        none = λ slot known not_flagged. window.none slot known (pending slot ∙ not_flagged);
        all = All-from_recursion (IsLaterFrame layout opening) later window.all;
      }

  -- what a cycle sends
  pub runs_cycle : (layout : CycleLayout) (requests : List Request) (opening : Opening) (past frames : List TimedFrame) → IsFit layout opening
      → AreAsynchronous requests
      → All (λ x. x.start < start_of layout opening) past
      → Follows (offered_in sends layout requests opening) past (start_of layout opening) (end_of_cycle layout opening) frames
      → RunsCycle sends layout opening frames
  runs_cycle layout requests opening past frames fit asynchronous before follows =
      let high : (earlier : List TimedFrame) (at : ℕ) (other : DataFrame) → OffersRequest layout requests opening earlier at other → greatest_trigger < other.identifier =
      λ earlier at other request. omega (arith, request_id sends layout requests asynchronous opening earlier at other request) in
      let short = frames_short layout.slots opening.cycle (width_of opening) opening.mask in
      let long = frames_long layout.slots opening.cycle (width_of opening) opening.mask in
      let cut = cut-left layout opening sends requests high past [] (trigger_frames layout opening) (start_of layout opening) (end_of_cycle layout opening) frames
      (AreLeft-all layout opening past before) (omega arith) (omega (arith, long)) (omega (arith, fit.room)) short
      (subst (λ front. Follows (offered_in sends layout requests opening) front (start_of layout opening) (end_of_cycle layout opening) frames) (sym (append-nil past)) follows) in
      cycle-of layout requests opening past frames fit asynchronous before cut.sent cut.later cut.split cut.are cut.at_once (NoTrigger-sent layout opening past cut.sent cut.sofar) cut.follows
