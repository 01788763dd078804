-- Disturbances that are felt in a part of a cycle, and what they cost of it.
use Rattle.std.proofs.Common.{◌≡◌, ℕ, ◌+◌, ◌*◌, ◌<◌, ◌≤◌, ◌&&◌, Bool, true, false, cond, List, [], ◌∷◌, All, Contains, get_or, inl, inr, ap, ◌∙◌, subst, arith, length, refl}
use Rattle.std.specs.Prelude.{nat_lt}
use Rattle.std.proofs.lemmas.Bool.{and_from, and_parts, cases_Bool, cases_lt, lt-ltb, ltb-true}
use Rattle.std.proofs.lemmas.List.Sums.{sum_by-cons}
use Rattle.std.proofs.lemmas.List.Elements.{All-contains, Contains-get_or}
use Rattle.can_frame.specs.DataFrame.{DataFrame}
use Rattle.can_frame.specs.Wire.{wire_length}
use Rattle.can_frame.specs.declared.data_frame.TimedFrame.{TimedFrame}
use Rattle.can_frame.proofs.Shared.{wire-most}
use Rattle.cycle_layout.specs.Layout.{CycleLayout, IsLayout, async_open, needed}
use Rattle.requirement_table.specs.Instance.{Instance}
use Rattle.requirement_table.specs.Opening.{Opening}
use Rattle.bus_line.specs.Trace.{Offers, started_before}
use Rattle.node_model.specs.Opening.{end_of_cycle, start_of}
use Rattle.node_model.proofs.Shared.{Contains-from_map}
use Rattle.cycle_engine.specs.Cycle.{FitsWindow}
use Rattle.cycle_engine.specs.Offered.{AreOfDistinctCycles}
use Rattle.cycle_engine.proofs.Shared.{Contains-here, Contains-later}
use Rattle.disturbed_runs.specs.Outages.{Outage, end_of_outage, overlap, touches, touching}
use Rattle.disturbed_runs.specs.Disturbances.{Disturbance, IsDisturbance, IsGivenUp, cost_of_cut, felt_in, intermission, longest_reach, outages_of}
use Rattle.disturbed_runs.specs.Offered.{AreGuarded, Asks, Late, Silent, first_from, may_start}
use Rattle.disturbed_runs.specs.Budget.{AreFew, AreFewFelt, ArePassiveWaits, FaultPlan, HasRoomFor, SendsAtMost, plan_of_errors}
use Rattle.disturbed_runs.proofs.Cycle.{allowed-in, ends-at}

-- What has bit times in a part is felt in it

module _ (low high : ℕ) where
  abbrev touch_mark : Outage → ℕ
  touch_mark outage = cond (touches low high outage) 1 0

  abbrev is_felt : Disturbance → Bool
  is_felt it = nat_lt low (it.seen + longest_reach) && nat_lt it.outage.start high

  abbrev felt_mark : Disturbance → ℕ
  felt_mark it = cond (is_felt it) 1 0

  one-felt : (it : Disturbance) → end_of_outage it.outage ≤ it.seen + longest_reach → touch_mark it.outage ≤ felt_mark it
  one-felt it ends = elim (cases_Bool (touches low high it.outage)) [
    | inl is ↦
        let two = and_parts (nat_lt it.outage.start high) (nat_lt low (end_of_outage it.outage)) is in
        let start = ltb-true it.outage.start high two.0 in
        let after = ltb-true low (end_of_outage it.outage) two.1 in
        let felt : is_felt it ≡ true = and_from (nat_lt low (it.seen + longest_reach)) (nat_lt it.outage.start high)
        (lt-ltb low (it.seen + longest_reach) (omega (arith, after, ends))) (lt-ltb it.outage.start high start) in
        let one : felt_mark it ≡ 1 = ap (λ b. cond b 1 0) felt in
        let also : touch_mark it.outage ≡ 1 = ap (λ b. cond b 1 0) is in
        omega (arith, one, also)
    | inr none ↦ let zero_ : touch_mark it.outage ≡ 0 = ap (λ b. cond b 1 0) none in omega (arith, zero_)
  ]

  pub touching-felt : (all : List Disturbance) → ((it : Disturbance) → Contains all it → end_of_outage it.outage ≤ it.seen + longest_reach)
      → touching low high (outages_of all) ≤ felt_in low high all
  touching-felt [] ends = omega arith
  touching-felt (it ∷ later) ends =
      let one = sum_by-cons touch_mark it.outage (outages_of later) in
      let two = sum_by-cons felt_mark it later in
      omega (arith, one, two, one-felt it (ends it (Contains-here it later)), touching-felt later (λ x has. ends x (Contains-later it later x has)))

-- what holds of each disturbance's outage
outages-all : (P : Outage → Type 0) (all : List Disturbance) → ((it : Disturbance) → Contains all it → P it.outage) → All P (outages_of all)
outages-all P all each k d within =
    let from = Contains-from_map (λ (it : Disturbance). it.outage) all (get_or (outages_of all) k d) (Contains-get_or (outages_of all) k d within) in
    subst P from.2 (each from.0 from.1)

module _ (reserve : ℕ) (late : Late) (silent : Silent) (sends : Instance → List ℕ) (layout : CycleLayout) (known : IsLayout layout) (asks : Asks) (openings : List Opening)
    (room : needed layout.turnaround (layout.window + reserve) layout.slots ≤ layout.cycle)
    (guarded : AreGuarded reserve late layout asks) (each_once : AreOfDistinctCycles openings)
    (trace : List TimedFrame) (o : Opening) (opened : Contains openings o) (fit : FitsWindow layout o)
    (bytes : ℕ) (short : SendsAtMost bytes silent sends o) (behind : async_open layout o.cycle + cost_of_cut 8 ≤ first_from reserve late layout o + cost_of_cut bytes) where
  abbrev may : Offers
  may = may_start reserve late silent sends layout asks openings

  record IsShort (it : Disturbance) : Type 0 where
    ends : end_of_outage it.outage ≤ it.seen + longest_reach
    span : it.outage.span ≤ cost_of_cut 8
    part : overlap (first_from reserve late layout o) (end_of_cycle layout o) it.outage ≤ cost_of_cut bytes

  -- a frame that its sender gave up
  given_up : (it : Disturbance) (at : ℕ) (frame : DataFrame) (bit : ℕ) → bit + intermission < wire_length frame → IsGivenUp may trace at frame bit it → IsShort it
  given_up it at frame bit inside is =
      let most = wire-most frame in
      let few = is.short in
      let start = is.starts in
      let end_ = is.ends in
      let seen = is.its_bit in
      record {
        ends = omega (arith, end_);
        span = omega (arith, most, few, inside, start, end_, seen);
        part = elim (cases_lt at (start_of layout o)) [
          | inl early ↦ omega (arith, most, few, inside, start, end_, seen, early, behind)
          | inr from ↦ elim (cases_lt at (end_of_cycle layout o)) [
            | inr over ↦ omega (arith, start, over)
            | inl until ↦ elim (allowed-in reserve late silent sends layout known asks openings room guarded each_once o opened (started_before at trace) at frame is.allowed from until) [
              | inl trigger ↦ (let within = trigger.within in omega (arith, most, few, inside, start, end_, seen, within, behind))
              | inr (inl asked) ↦ (let whole = (guarded o (started_before at trace) at frame asked).whole in omega (arith, most, inside, start, end_, seen, whole))
              | inr (inr (slot, sent)) ↦
                  let small = short slot frame.bytes sent.known sent.flagged sent.loud sent.bytes in
                  omega (arith, most, small, inside, start, end_, seen)
            ]
          ]
        ];
      }

  each-short : (all : List Disturbance) (it : Disturbance) → IsDisturbance may trace all it → IsShort it
  each-short all it (inl cut) = (let inside = cut.inside in given_up it cut.at cut.frame cut.bit (omega (arith, inside)) cut.given_up)
  each-short all it (inr (inl hit)) = (let last = hit.last in given_up it hit.at hit.frame hit.bit (omega (arith, last)) hit.given_up)
  each-short all it (inr (inr (inl hit))) = record { ends = omega (arith, hit.ends); span = omega (arith, hit.starts, hit.ends); part = omega (arith, hit.starts, hit.ends) }
  each-short all it (inr (inr (inr (inl hit)))) = record { ends = omega (arith, hit.ends); span = omega (arith, hit.starts, hit.ends); part = omega (arith, hit.starts, hit.ends) }
  each-short all it (inr (inr (inr (inr hit)))) = record { ends = omega (arith, hit.ends); span = omega (arith, hit.starts, hit.ends); part = omega (arith, hit.starts, hit.ends) }

  module _ (all : List Disturbance) (are : All (IsDisturbance may trace all) all) where
    each : (it : Disturbance) → Contains all it → IsShort it
    each it has = each-short all it (All-contains (IsDisturbance may trace all) all it are has)

    pub felt-few : (retries passive_triggers errors passive : ℕ) (waits : List Outage)
        → felt_in (start_of layout o) (async_open layout o.cycle) all ≤ retries
        → felt_in (first_from reserve late layout o) (end_of_cycle layout o) all ≤ errors
        → HasRoomFor layout reserve late silent (plan_of_errors retries passive_triggers errors bytes passive) o
        → ArePassiveWaits layout reserve late (plan_of_errors retries passive_triggers errors bytes passive) waits o
        → AreFew layout reserve late silent (plan_of_errors retries passive_triggers errors bytes passive) (outages_of all) waits o
    felt-few retries passive_triggers errors passive waits in_triggers in_window has_room are_waits =
        let one = touching-felt (start_of layout o) (async_open layout o.cycle) all (λ it has. (each it has).ends) in
        let two = touching-felt (first_from reserve late layout o) (end_of_cycle layout o) all (λ it has. (each it has).ends) in
        record {
          has_room = has_room;
          triggers = omega (arith, one, in_triggers);
          short_triggers = outages-all (λ outage. overlap (start_of layout o) (async_open layout o.cycle) outage ≤ cost_of_cut 8) all
              (λ it has. let span = (each it has).span in omega (arith, span));
          window = omega (arith, two, in_window);
          short_window = outages-all (λ outage. overlap (first_from reserve late layout o) (end_of_cycle layout o) outage ≤ cost_of_cut bytes) all (λ it has. (each it has).part);
          passive = are_waits;
        }
