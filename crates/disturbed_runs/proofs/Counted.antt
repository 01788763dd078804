-- Outages that are counted.
use Rattle.std.proofs.Common.{◌≡◌, ℕ, ◌+◌, ◌-◌, ◌*◌, ◌≤◌, true, false, cond, List, [], ◌∷◌, ◌++◌, All, inl, inr, ap, ◌∙◌, arith, length, add-mul, one-mul, zero-mul, mul-le-mul_right}
use Rattle.std.specs.Prelude.{nat_lt}
use Rattle.std.proofs.lemmas.Bool.{and_from, and_right, cases_lt, le-ltb, lt-ltb}
use Rattle.std.proofs.lemmas.List.Sums.{sum_by-append, sum_by-cons}
use Rattle.std.proofs.lemmas.List.Elements.{All-head, All-tail}
use Rattle.can_frame.specs.DataFrame.{DataFrame}
use Rattle.can_frame.specs.declared.data_frame.TimedFrame.{TimedFrame}
use Rattle.can_frame.proofs.Shared.{wire-most}
use Rattle.cycle_layout.specs.Layout.{CycleLayout, async_open}
use Rattle.requirement_table.specs.Opening.{Opening}
use Rattle.node_model.specs.Opening.{end_of_cycle, start_of}
use Rattle.disturbed_runs.specs.Outages.{Outage, end_of_outage, lost_in, overlap, touches, touching, under_way}
use Rattle.disturbed_runs.specs.Disturbances.{IsCut, cost_of_cut, intermission, longest_recovery, suspend_time}
use Rattle.disturbed_runs.specs.Offered.{AreGuardedBy, Asks, Late, Silent, first_from}
use Rattle.disturbed_runs.specs.Budget.{AreFew, FaultPlan, IsWithinBudget}
use Rattle.disturbed_runs.specs.Kept.{KeepsBudget}

module _ (low high cost : ℕ) where
  abbrev mark : Outage → ℕ
  mark outage = cond (touches low high outage) 1 0

  -- an outage takes no more than what one takes at most, and nothing where it has no bit times
  one-lost : (outage : Outage) → overlap low high outage ≤ cost → overlap low high outage ≤ mark outage * cost
  one-lost outage short = elim (cases_lt outage.start high) [
    | inr late ↦ omega (arith, late)
    | inl early ↦ elim (cases_lt low (end_of_outage outage)) [
      | inr over ↦ omega (arith, over)
      | inl late ↦
          let is = ap (λ b. cond b 1 0 * cost) (and_from (nat_lt outage.start high) (nat_lt low (end_of_outage outage)) (lt-ltb outage.start high early) (lt-ltb low (end_of_outage outage) late)) in
          omega (arith, is, one-mul cost, short)
    ]
  ]

  pub lost-few : (outages : List Outage) → All (λ outage. overlap low high outage ≤ cost) outages → lost_in low high outages ≤ touching low high outages * cost
  lost-few [] short = omega (arith, zero-mul cost)
  lost-few (outage ∷ later) short =
      let sum = sum_by-cons (overlap low high) outage later in
      let marks = sum_by-cons mark outage later in
      let product = ap (λ n. n * cost) marks ∙ add-mul (mark outage) (touching low high later) cost in
      let one = one-lost outage (All-head (λ x. overlap low high x ≤ cost) outage later short) in
      omega (arith, sum, product, one, lost-few later (All-tail (λ x. overlap low high x ≤ cost) outage later short))

  -- so many of them at most
  pub lost-most : (most : ℕ) (outages : List Outage) → All (λ outage. overlap low high outage ≤ cost) outages → touching low high outages ≤ most → lost_in low high outages ≤ most * cost
  lost-most most outages short few =
      let count : touching low high outages * cost ≤ most * cost = mul-le-mul_right cost few in
      omega (arith, lost-few outages short, count)

-- what is short takes little of any part
short-part : (low high cost : ℕ) (outages : List Outage) → All (λ outage. outage.span ≤ cost) outages → All (λ outage. overlap low high outage ≤ cost) outages
short-part low high cost outages short = λ k d within. let is = short k d within in omega (arith, is)

module _ (layout : CycleLayout) (reserve : ℕ) (late : Late) (silent : Silent) (plan : FaultPlan) (outages waits : List Outage) (o : Opening)
    (few : AreFew layout reserve late silent plan outages waits o) where
  both : (low high : ℕ) → lost_in low high (outages ++ waits) ≡ lost_in low high outages + lost_in low high waits
  both low high = sum_by-append (overlap low high) outages waits

  pub few-budget : IsWithinBudget layout reserve late silent (outages ++ waits) o
  few-budget =
      let begin = start_of layout o in
      let open_ = async_open layout o.cycle in
      let window_ = first_from reserve late layout o in
      let finish = end_of_cycle layout o in
      record {
        triggers = (
            let one = lost-most begin open_ plan.retry_cost plan.retries outages few.short_triggers few.triggers in
            let two = lost-most begin open_ suspend_time plan.passive_triggers waits (short-part begin open_ suspend_time waits few.passive.short) few.passive.triggers in
            let room = few.has_room.turnaround in
            omega (arith, both begin open_, one, two, room));
        window = (
            let one = lost-most window_ finish plan.cost plan.errors outages few.short_window few.window in
            let two = lost-most window_ finish suspend_time plan.passive waits (short-part window_ finish suspend_time waits few.passive.short) few.passive.window in
            let room = few.has_room.room in
            omega (arith, both window_ finish, one, two, room));
        in_order = few.has_room.in_order;
      }

-- what is left of earlier frames as one of these
pub few-keeps : (reserve : ℕ) (late : Late) (silent : Silent) (plan : FaultPlan) (layout : CycleLayout) (outages waits : List Outage) (trace : List TimedFrame) (o : Opening)
    → AreFew layout reserve late silent plan (outages ++ under_way (start_of layout o) trace) waits o
    → KeepsBudget layout reserve late silent (outages ++ waits) trace o
few-keeps reserve late silent plan layout outages waits trace o few =
    let is = few-budget layout reserve late silent plan (outages ++ under_way (start_of layout o) trace) waits o few in
    let left = under_way (start_of layout o) trace in
    let same : (low high : ℕ) → lost_in low high ((outages ++ waits) ++ left) ≡ lost_in low high ((outages ++ left) ++ waits) = λ low high.
    let one = sum_by-append (overlap low high) (outages ++ waits) left in
    let two = sum_by-append (overlap low high) outages waits in
    let three = sum_by-append (overlap low high) (outages ++ left) waits in
    let four = sum_by-append (overlap low high) outages left in
    omega (arith, one, two, three, four) in
    record {
      triggers = (let eq = same (start_of layout o) (async_open layout o.cycle) in omega (arith, eq, is.triggers));
      window = (let eq = same (first_from reserve late layout o) (end_of_cycle layout o) in omega (arith, eq, is.window));
      in_order = is.in_order;
    }

-- Attempts that are cut

pub cut-short : (at bytes : ℕ) (frame : DataFrame) (outage : Outage) → IsCut at frame outage → length frame.bytes ≤ bytes → outage.span ≤ cost_of_cut bytes
cut-short at bytes frame outage cut few = omega (arith, cut.inside, cut.starts, cut.ends, wire-most frame, few)

pub cut-outside : (reserve : ℕ) (late : Late) (layout : CycleLayout) (asks : Asks) (opening : Opening) (past : List TimedFrame) (at : ℕ) (frame : DataFrame) (outage : Outage)
    → AreGuardedBy (longest_recovery - intermission) reserve late layout asks → asks opening past at frame ≡ true → IsCut at frame outage
    → touches (first_from reserve late layout opening) (end_of_cycle layout opening) outage ≡ false
cut-outside reserve late layout asks opening past at frame outage guarded asked cut =
    let free = guarded opening past at frame asked in
    let ended : end_of_outage outage ≤ first_from reserve late layout opening = omega (arith, free, cut.inside, cut.ends, wire-most frame) in
    and_right (nat_lt outage.start (end_of_cycle layout opening)) (nat_lt (first_from reserve late layout opening) (end_of_outage outage))
    (le-ltb (first_from reserve late layout opening) (end_of_outage outage) ended)

pub cut-beyond : (guard reserve : ℕ) (late : Late) (layout : CycleLayout) (asks : Asks) (opening : Opening) (past : List TimedFrame) (at : ℕ) (frame : DataFrame) (outage : Outage)
    → AreGuardedBy guard reserve late layout asks → asks opening past at frame ≡ true → IsCut at frame outage
    → overlap (first_from reserve late layout opening) (end_of_cycle layout opening) outage ≤ (longest_recovery - intermission) - guard
cut-beyond guard reserve late layout asks opening past at frame outage guarded asked cut =
    let free = guarded opening past at frame asked in
    omega (arith, free, cut.inside, cut.ends, wire-most frame)
