-- The triggers up to a frame count the cycles up to its own.
use Rattle.std.proofs.Common.{◌≡◌, ◌≢◌, ℕ, suc, ◌+◌, ◌<◌, ◌≤◌, ◌⊎◌, Bool, true, false, cond, List, [], ◌∷◌, ◌++◌, length, get_or, filter, All, AllPairs, Contains, sym, ap, subst, ◌∙◌, ⊎_elim, arith}
use Rattle.std.specs.Prelude.{◌==◌}
use Rattle.std.proofs.lemmas.Bool.{cases_eq, cond-true, eq-eqb, ne_eqb}
use Rattle.std.proofs.lemmas.List.Elements.{All-append, All-contains, All-head, All-tail, Contains-get_or}
use Rattle.std.proofs.lemmas.Nat.{le-div}
use Rattle.std.proofs.Math.Nat.{div-lt_iff_lt-mul, div-mul-le_self}
use Rattle.can_frame.specs.declared.data_frame.TimedFrame.{TimedFrame}
use Rattle.cycle_layout.specs.Layout.{CycleLayout}
use Rattle.requirement_table.specs.Instance.{Instance}
use Rattle.requirement_table.specs.Opening.{Opening}
use Rattle.master_core.specs.declared.event.Event.{Event}
use Rattle.master_core.specs.History.{next_of}
use Rattle.master_core.specs.Openings.{openings_of}
use Rattle.master_core.proofs.Shared.{opened-of_legal}
use Rattle.cycle_engine.specs.Cycle.{IsRequestFrame, IsSlotFrame, RunsCycle, cycle_of, frames_in}
use Rattle.kept_run.specs.Progress.{IsUnderWay}
use Rattle.kept_run.specs.Setting.{IsSetting, Setting}
use Rattle.kept_run.proofs.Lists.{Contains-filter, filter-none, of-number}
use Rattle.kept_run.proofs.Served.{second_identifiers, trigger_identifier}

abbrev is_trigger : TimedFrame → Bool
is_trigger sent = sent.frame.identifier == 0

abbrev one_if : Bool → ℕ
one_if b = cond b 1 0

head-same : (x y : TimedFrame) (xs ys : List TimedFrame) → x ∷ xs ≡ y ∷ ys → x ≡ y
head-same x y xs ys same = cc

tail-same : (x y : TimedFrame) (xs ys : List TimedFrame) → x ∷ xs ≡ y ∷ ys → xs ≡ ys
tail-same x y xs ys same = cc

-- the frames of a cycle begin with a first trigger frame, and have no other
record BeginsWithTrigger (frames : List TimedFrame) : Type 0 where
  trigger : TimedFrame
  later : List TimedFrame
  split : frames ≡ trigger ∷ later
  first : trigger.frame.identifier ≡ 0
  others : All (λ sent. sent.frame.identifier ≢ 0) later

module _ (cyc : TimedFrame → ℕ) (next : ℕ) where
  -- behind so many triggers: no frame of the cycle before has one, and each cycle from here on begins with one
  record Counts (seen : ℕ) (rest : List TimedFrame) : Type 0 where
    sorted : AllPairs (λ one other. cyc one ≤ cyc other) rest
    below : All (λ sent. cyc sent < next) rest
    from : All (λ sent. seen ≤ cyc sent + 1) rest
    old : All (λ sent. cyc sent + 1 ≡ seen → sent.frame.identifier ≢ 0) rest
    each : (c : ℕ) → seen ≤ c → c < next → BeginsWithTrigger (filter (λ sent. cyc sent == c) rest)

  record OneMore (seen : ℕ) (sent : TimedFrame) (later : List TimedFrame) : Type 0 where
    count : seen + one_if (is_trigger sent) ≡ cyc sent + 1
    counts : Counts (cyc sent + 1) later

  sorted-head : (sent : TimedFrame) (later : List TimedFrame) → AllPairs (λ one other. cyc one ≤ cyc other) (sent ∷ later)
      → All (λ other. cyc sent ≤ cyc other) later
  sorted-head sent later sorted = λ k d within. sorted 0 (suc k) d (omega arith) (omega arith)

  sorted-tail : (sent : TimedFrame) (later : List TimedFrame) → AllPairs (λ one other. cyc one ≤ cyc other) (sent ∷ later)
      → AllPairs (λ one other. cyc one ≤ cyc other) later
  sorted-tail sent later sorted = λ i j d before within. sorted (suc i) (suc j) d (omega arith) (omega arith)

  with-first : (c : ℕ) (sent : TimedFrame) (later : List TimedFrame) → cyc sent ≡ c
      → filter (λ x. cyc x == c) (sent ∷ later) ≡ sent ∷ filter (λ x. cyc x == c) later
  with-first c sent later same = grind (arith, cond-true, eq-eqb)

  later-each : (seen : ℕ) (sent : TimedFrame) (later : List TimedFrame) → Counts seen (sent ∷ later) → seen ≤ cyc sent + 1
      → (c : ℕ) → cyc sent + 1 ≤ c → c < next → BeginsWithTrigger (filter (λ x. cyc x == c) later)
  later-each seen sent later counts reached c after known = grind arith

  -- a frame of the cycle whose trigger was seen
  step-old : (seen : ℕ) (sent : TimedFrame) (later : List TimedFrame) → Counts seen (sent ∷ later) → cyc sent + 1 ≡ seen → OneMore seen sent later
  step-old seen sent later counts same =
      let other = All-head (λ x. cyc x + 1 ≡ seen → x.frame.identifier ≢ 0) sent later counts.old same in
      let none : is_trigger sent ≡ false = ne_eqb sent.frame.identifier 0 other in
      record {
        count = ap (λ b. seen + one_if b) none ∙ (omega arith);
        counts = record {
          sorted = sorted-tail sent later counts.sorted;
          below = All-tail (λ x. cyc x < next) sent later counts.below;
          from = λ k d within.
              let reached = All-tail (λ x. seen ≤ cyc x + 1) sent later counts.from k d within in
              omega arith;
          old = λ k d within here.
              All-tail (λ x. cyc x + 1 ≡ seen → x.frame.identifier ≢ 0) sent later counts.old k d within (here ∙ same);
          each = later-each seen sent later counts (omega arith);
        };
      }

  -- the first frame of a cycle
  step-new : (seen : ℕ) (sent : TimedFrame) (later : List TimedFrame) → Counts seen (sent ∷ later) → cyc sent + 1 ≢ seen → OneMore seen sent later
  step-new seen sent later counts other =
      let reached = All-head (λ x. seen ≤ cyc x + 1) sent later counts.from in
      let known = All-head (λ x. cyc x < next) sent later counts.below in
      let behind = sorted-head sent later counts.sorted in
      let begins = counts.each seen (omega arith) (omega arith) in
      ⊎_elim
      (λ (here : cyc sent ≡ seen).
      let split = sym (with-first seen sent later here) ∙ begins.split in
      let trigger : sent ≡ begins.trigger = head-same sent begins.trigger (filter (λ x. cyc x == seen) later) begins.later split in
      let rest : filter (λ x. cyc x == seen) later ≡ begins.later
      = tail-same sent begins.trigger (filter (λ x. cyc x == seen) later) begins.later split in
      let is : is_trigger sent ≡ true = eq-eqb sent.frame.identifier 0 (ap (λ s. s.frame.identifier) trigger ∙ begins.first) in
      record {
        count = ap (λ b. seen + one_if b) is ∙ (omega arith);
        counts = record {
          sorted = sorted-tail sent later counts.sorted;
          below = All-tail (λ x. cyc x < next) sent later counts.below;
          from = λ k d within. let after = behind k d within in omega arith;
          old = λ k d within same.
              let x = get_or later k d in
              let of_cycle : cyc x ≡ seen = omega arith in
              let among = Contains-filter (λ y. cyc y == seen) later x (Contains-get_or later k d within) (eq-eqb (cyc x) seen of_cycle) in
              All-contains (λ y. y.frame.identifier ≢ 0) begins.later x begins.others (subst (λ l. Contains l x) rest among);
          each = later-each seen sent later counts (omega arith);
        };
      })
      (λ (apart : cyc sent ≢ seen). grind (arith, filter-none, ne_eqb))
      (cases_eq (cyc sent) seen)

  step : (seen : ℕ) (sent : TimedFrame) (later : List TimedFrame) → Counts seen (sent ∷ later) → OneMore seen sent later
  step seen sent later counts =
      ⊎_elim (λ (same : cyc sent + 1 ≡ seen). step-old seen sent later counts same)
      (λ (other : cyc sent + 1 ≢ seen). step-new seen sent later counts other)
      (cases_eq (cyc sent + 1) seen)

  counted : (front later : List TimedFrame) (sent : TimedFrame) (seen : ℕ) → Counts seen (front ++ sent ∷ later)
      → seen + length (filter is_trigger (front ++ sent ∷ [])) ≡ cyc sent + 1
  counted [] later sent seen counts =
      let more = step seen sent later counts in
      grind arith
  counted (x ∷ front) later sent seen counts =
      let more = step seen x (front ++ sent ∷ later) counts in
      let rest = counted front later sent (cyc x + 1) more.counts in
      grind arith

-- Runs under way

not-trigger : (layout : CycleLayout) (opening : Opening) (sent : TimedFrame) → IsRequestFrame layout opening sent ⊎ IsSlotFrame layout opening sent
    → sent.frame.identifier ≢ 0
not-trigger layout opening sent h0 = grind arith

begins-of : {sends : Instance → List ℕ} (layout : CycleLayout) (opening : Opening) (frames : List TimedFrame) → RunsCycle sends layout opening frames → BeginsWithTrigger frames
begins-of layout opening frames runs = record {
  trigger = runs.trigger;
  later = runs.second ++ runs.later;
  split = runs.all_frames;
  first = trigger_identifier layout opening frames runs;
  others = All-append (λ sent. sent.frame.identifier ≢ 0) runs.second runs.later
      (λ k d within none. let one = second_identifiers layout opening frames runs k d within in omega arith)
      (λ k d within. not-trigger layout opening (get_or runs.later k d) (runs.all k d within));
}

pub triggers-counted : (setting : Setting) (history : List Event) (trace : List TimedFrame)
    → IsSetting setting → IsUnderWay setting history trace
    → (front later : List TimedFrame) (sent : TimedFrame) → trace ≡ front ++ sent ∷ later
    → length (filter is_trigger (front ++ sent ∷ [])) ≡ cycle_of setting.layout sent + 1
triggers-counted setting history trace known way front later sent split =
    let layout = setting.layout in
    let some_time : 0 < setting.layout.cycle = omega arith in
    let counts : Counts (cycle_of setting.layout) (next_of history) 0 trace = record {
      sorted = grind (arith, div-mul-le_self, le-div);
      below = λ k d within. (div-lt_iff_lt-mul some_time).1 (way.can_trace.within k d within);
      from = λ k d within. omega arith;
      old = λ k d within none. absurd (omega arith);
      each = λ c after below.
          let opened = of-number (λ o. o.cycle) (openings_of history) (next_of history) (opened-of_legal setting.rules history way.legal).cycles c below in
          let runs = All-contains (λ o. RunsCycle setting.sends setting.layout o (frames_in setting.layout o.cycle trace)) (openings_of history) opened.0 way.cycles opened.1 in
          subst (λ n. BeginsWithTrigger (frames_in setting.layout n trace)) opened.2
          (begins-of setting.layout opened.0 (frames_in setting.layout opened.0.cycle trace) runs);
    } in
    let all = counted (cycle_of setting.layout) (next_of history) front later sent 0
    (subst (Counts (cycle_of setting.layout) (next_of history) 0) split counts) in
    omega arith
