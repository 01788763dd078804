-- One opened cycle that keeps its budget is kept.
use Rattle.std.proofs.Common.{◌≡◌, ◌≢◌, ℕ, ◌+◌, ◌*◌, ◌<◌, ◌≤◌, ◌&&◌, Bool, true, false, eqb, leb, List, ◌++◌, All, AllPairs, Contains, get_or, sym, ◌∙◌, subst, arith}
use Rattle.std.proofs.Math.Nat.{div-eq_of_lt-le, div-lt_iff_lt-mul}
use Rattle.std.proofs.lemmas.Nat.{div-add-mod'}
use Rattle.std.proofs.lemmas.Bool.{and_from, and_parts, eq-eqb, eqb-true, le-leb, leb-true}
use Rattle.std.proofs.lemmas.List.Elements.{Contains-get_or}
use Rattle.profile.specs.Limits.{first_identifier}
use Rattle.bit_sets.specs.Sets.{has_bit, most_slots}
use Rattle.can_frame.specs.declared.data_frame.TimedFrame.{TimedFrame}
use Rattle.trigger_codec.proofs.Shared.{rising}
use Rattle.cycle_layout.specs.Layout.{CycleLayout, IsLayout, needed}
use Rattle.requirement_table.specs.Instance.{Instance}
use Rattle.requirement_table.specs.Opening.{Opening, width_of}
use Rattle.bus_line.specs.Trace.{end_of}
use Rattle.node_model.specs.Opening.{end_of_cycle, start_of}
use Rattle.cycle_engine.specs.Cycle.{FitsWindow, cycle_of}
use Rattle.cycle_engine.specs.Offered.{AreOfDistinctCycles, SendsWhole}
use Rattle.cycle_engine.proofs.Shared.{same_by_number}
use Rattle.disturbed_runs.specs.Outages.{Outage, under_way}
use Rattle.disturbed_runs.specs.Offered.{AreGuarded, Asks, IsDisturbedRun, Late, Silent, is_silent, triggers_from}
use Rattle.disturbed_runs.specs.Budget.{IsWithinBudget}
use Rattle.disturbed_runs.specs.Kept.{IsCycleKept, IsHeard, IsSentAgain, IsTriggerHeard}
use Rattle.disturbed_runs.proofs.Cycle.{ended-by, loud-from, slot-sent, some-long, told-by, trigger-done, trigger-ends, trigger-low, trigger-short, trigger-there, twice, window-from_begin}
use Rattle.disturbed_runs.proofs.Lists.{filter-once}

-- the times of a cycle

pub cycle-at : (layout : CycleLayout) (s : TimedFrame) (c : ℕ) → c * layout.cycle ≤ s.start → s.start < (c + 1) * layout.cycle → cycle_of layout s ≡ c
cycle-at layout s c from until = div-eq_of_lt-le layout.cycle from until

pub from-cycle : (layout : CycleLayout) (s : TimedFrame) → 0 < layout.cycle
    → (cycle_of layout s * layout.cycle ≤ s.start) × (s.start < (cycle_of layout s + 1) * layout.cycle)
from-cycle layout s some =
    let split = div-add-mod' s.start layout.cycle in
    (omega (arith, split), (div-lt_iff_lt-mul {k = layout.cycle} {x = s.start} {y = cycle_of layout s + 1} some).0 (omega arith))

module _ (reserve : ℕ) (late : Late) (silent : Silent) (sends : Instance → List ℕ) (layout : CycleLayout) (known : IsLayout layout) (asks : Asks) (openings : List Opening)
    (count : ℕ) (outages : List Outage) (trace : List TimedFrame)
    (room : needed layout.turnaround (layout.window + reserve) layout.slots ≤ layout.cycle)
    (whole : SendsWhole sends) (guarded : AreGuarded reserve late layout asks) (each_once : AreOfDistinctCycles openings)
    (traced : IsDisturbedRun reserve late silent sends layout asks openings count outages trace)
    (o : Opening) (opened : Contains openings o) (early : o.cycle < count) (fit : FitsWindow layout o)
    (budget : IsWithinBudget layout reserve late silent (outages ++ under_way (start_of layout o) trace) o) where
  some-time : 0 < layout.cycle
  some-time = let range = known.cycle_range.above in omega arith

  -- Its trigger

  pub heard : IsTriggerHeard reserve layout silent (outages ++ under_way (start_of layout o) trace) trace o
  heard loud k d here =
      let f = get_or (triggers_from reserve layout o) k d in
      let among = Contains-get_or (triggers_from reserve layout o) k d here in
      let low = trigger-low reserve late silent sends layout known asks openings count outages trace room whole guarded each_once traced o opened early fit budget f among in
      let is = trigger-done reserve late silent sends layout known asks openings count outages trace room whole guarded each_once traced o opened early fit budget loud f.identifier low in
      let told = told-by reserve late silent sends layout known asks openings count outages trace room whole guarded each_once traced o opened early fit budget in
      let its_ = (trigger-there reserve late silent sends layout known asks openings count outages trace room whole guarded each_once traced o opened early fit budget
      is.it is.among is.after (omega (arith, is.before, told))).0 in
      let short = trigger-short reserve late silent sends layout known asks openings count outages trace room whole guarded each_once traced o opened early fit budget is.it is.among its_ in
      let distinct : AllPairs (λ one other. one.identifier ≢ other.identifier) (triggers_from reserve layout o)
      = λ a b c order within same. let less = rising layout.slots o.cycle (width_of o + reserve) o.mask a b c order within in omega (arith, less, same) in
      record {
        sent = is.it;
        among = is.among;
        its_frame = same_by_number (λ x. x.identifier) (triggers_from reserve layout o) is.it.frame f distinct its_ among (omega (arith, is.named));
        after = is.after;
        before = omega (arith, is.before, short, told);
        soon = is.before;
      }

  -- Its slots

  module _ (slot : ℕ) (within : slot < most_slots) (flagged : has_bit o.mask slot ≡ true) (loud : is_silent silent o.cycle slot ≡ false) where
    abbrev wanted : TimedFrame → Bool
    wanted s = eqb s.frame.identifier (first_identifier + slot) && (leb o.cycle (cycle_of layout s) && leb (cycle_of layout s) o.cycle)

    there : (s : TimedFrame) → wanted s ≡ true → (s.frame.identifier ≡ first_identifier + slot) × (start_of layout o ≤ s.start) × (s.start < end_of_cycle layout o)
    there s is =
        let parts = and_parts (eqb s.frame.identifier (first_identifier + slot)) _ is in
        let times = and_parts (leb o.cycle (cycle_of layout s)) (leb (cycle_of layout s) o.cycle) parts.1 in
        let same : cycle_of layout s ≡ o.cycle = omega (arith, leb-true o.cycle (cycle_of layout s) times.0, leb-true (cycle_of layout s) o.cycle times.1) in
        let time = from-cycle layout s some-time in
        (eqb-true s.frame.identifier (first_identifier + slot) parts.0, subst (λ c. c * layout.cycle ≤ s.start) same time.0, subst (λ c. s.start < (c + 1) * layout.cycle) same time.1)

    alone : AllPairs (λ a b. wanted a ≡ true → wanted b ≡ true → ⊥) trace
    alone i j d order here ok_ also =
        let x = get_or trace i d in
        let y = get_or trace j d in
        let has_x = Contains-get_or trace i d (omega (arith, order, here)) in
        let has_y = Contains-get_or trace j d here in
        let one = there x ok_ in
        let two = there y also in
        let apart = traced.ordered.apart i j d order here in
        let long = some-long reserve late silent sends layout known asks openings count outages trace room whole guarded each_once traced x has_x in
        twice reserve late silent sends layout known asks openings count outages trace room whole guarded each_once traced o opened x y has_x has_y
        (omega (arith, apart, long)) one.1 two.2 (one.0 ∙ sym two.0) (omega (arith, two.0, within))

    pub sent-again : IsSentAgain sends layout reserve late o trace slot
    sent-again =
        let flag = loud-from reserve late silent sends layout known asks openings count outages trace room whole guarded each_once traced o opened early fit budget slot flagged loud in
        let is = slot-sent reserve late silent sends layout known asks openings count outages trace room whole guarded each_once traced o opened early fit budget slot within flag in
        let begun = window-from_begin reserve late silent sends layout known asks openings count outages trace room whole guarded each_once traced o opened early fit budget in
        let cycle : cycle_of layout is.sent ≡ o.cycle = cycle-at layout is.sent o.cycle (omega (arith, begun, is.after)) is.before_ in
        record {
          sent = is.sent;
          once = filter-once wanted trace is.sent is.among
              (and_from (eqb is.sent.frame.identifier (first_identifier + slot)) (leb o.cycle (cycle_of layout is.sent) && leb (cycle_of layout is.sent) o.cycle)
              (eq-eqb is.sent.frame.identifier (first_identifier + slot) is.identifier)
              (and_from (leb o.cycle (cycle_of layout is.sent)) (leb (cycle_of layout is.sent) o.cycle)
              (le-leb o.cycle (cycle_of layout is.sent) (omega (arith, cycle))) (le-leb (cycle_of layout is.sent) o.cycle (omega (arith, cycle)))))
              alone;
          after = is.after;
          before = is.ends;
          carries = is.carries;
        }

  pub cycle-kept : IsCycleKept sends layout reserve late silent (outages ++ under_way (start_of layout o) trace) trace o
  cycle-kept = record {
    heard = heard;
    sent = sent-again;
    free = λ k d here. trigger-ends reserve late silent sends layout known asks openings count outages trace room whole guarded each_once traced o opened early fit budget
        (get_or trace k d) (Contains-get_or trace k d here);
    ended = λ k d here. ended-by reserve late silent sends layout known asks openings count outages trace room whole guarded each_once traced o opened early fit budget
        (get_or trace k d) (Contains-get_or trace k d here);
  }
