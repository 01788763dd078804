-- While a request waits, what may go before it fills the bus.
use Rattle.std.proofs.Common.{◌≡◌, ℕ, zero, suc, ◌+◌, ◌-◌, ◌*◌, ◌/◌, ◌%◌, ◌<◌, ◌≤◌, Bool, true, List, length, Contains, inl, inr, refl, sym, subst, arith, add-zero, add-suc, div-lt_iff_lt-mul}
use Rattle.std.specs.Prelude.{nat_le, nat_lt, ◌&&◌}
use Rattle.std.proofs.lemmas.Bool.{and_from, and_parts, cases_lt, leb-true, le-leb, lt-ltb}
use Rattle.std.proofs.lemmas.List.Elements.{All-contains}
use Rattle.std.proofs.lemmas.Nat.{div-add-mod'}
use Rattle.profile.specs.Limits.{least_asynchronous}
use Rattle.can_frame.specs.declared.data_frame.TimedFrame.{TimedFrame}
use Rattle.cycle_layout.specs.Layout.{CycleLayout, IsAllowed, IsLayout, async_open, trigger_part}
use Rattle.requirement_table.specs.Instance.{Instance}
use Rattle.requirement_table.specs.Opening.{Opening, width_of}
use Rattle.async_window.specs.declared.request.Request.{Request}
use Rattle.bus_line.specs.Trace.{IsLeastOffered, end_of, started_before}
use Rattle.cycle_engine.specs.Offered.{offered}
use Rattle.async_bound.specs.Room.{count_below, is_usable}
use Rattle.bounded_runs.specs.Runs.{EndSoon, IsBoundedRun, IsPressed, WaitsOnBus, is_ahead, is_inside, time_of}
use Rattle.async_bound.proofs.Shared.{Contains-any}
use Rattle.bounded_runs.proofs.Count.{IsCovered, covered-times}
use Rattle.bounded_runs.proofs.Free.{free-at, is-request}
use Rattle.bounded_runs.proofs.Requests.{IsAnswering, of-request}

-- a usable time, in the words of its cycle
pub record IsRoom (layout : CycleLayout) (longest at cycle : ℕ) : Type 0 where
  pub open_ : async_open layout cycle ≤ at
  pub whole : at + longest + layout.window ≤ (cycle + 1) * layout.cycle

pub room-of : (layout : CycleLayout) (longest at : ℕ) → is_usable layout longest at ≡ true → IsRoom layout longest at (at / layout.cycle)
room-of layout longest at usable =
    let parts = and_parts (nat_le (trigger_part layout + layout.turnaround) (at % layout.cycle)) (nat_le (at % layout.cycle + longest + layout.window) layout.cycle) usable in
    let early = leb-true (trigger_part layout + layout.turnaround) (at % layout.cycle) parts.0 in
    let late = leb-true (at % layout.cycle + longest + layout.window) layout.cycle parts.1 in
    let split = div-add-mod' at layout.cycle in
    record { open_ = omega (arith, early, split); whole = omega (arith, late, split) }

pub count-more : (test : ℕ → Bool) (low k : ℕ) → count_below test low ≤ count_below test (low + k)
count-more test low zero = rw (add-zero low) (omega arith)
count-more test low (suc k) =
    let sofar = count-more test low k in
    rw (add-suc low k) (omega (arith, sofar))

module _ (sends : Instance → List ℕ) (layout : CycleLayout) (known : IsLayout layout) (requests : List Request) (openings : List Opening)
    (count : ℕ) (trace : List TimedFrame) (run : IsBoundedRun sends layout requests openings count trace) where
  -- a request that waits in the room of a cycle is offered
  offered-request : (longest at cycle : ℕ) (request : Request) → IsRoom layout longest at cycle → cycle < count → WaitsOnBus requests trace longest at request
      → offered sends layout requests openings (started_before at trace) at request.frame
  offered-request longest at cycle request room below waits =
      let is = run.opened cycle below in (
        is.opening,
        is.among,
        inr (inl (record {
          request = request;
          may_start = record {
            waiting = waits.waiting;
            allowed = subst (λ c. IsAllowed layout (length request.frame.bytes) at c (width_of is.opening)) (sym is.number) (record {
              opened = room.open_;
              whole = omega (arith, room.whole, waits.short, is.narrow);
            });
          };
          its_frame = refl;
        })),
      )

  -- so it is answered
  pub answering-run : (longest : ℕ) → IsAnswering requests trace (is_usable layout longest) longest (count * layout.cycle)
  answering-run longest = record {
    ordered = run.can_trace.ordered;
    of_request = of-request sends layout requests openings count trace run;
    answers = λ at r before usable waits.
        let range = known.cycle_range.above in
        let some_time : 0 < layout.cycle = omega arith in
        let cycle = at / layout.cycle in
        let below : at / layout.cycle < count = (div-lt_iff_lt-mul some_time).1 (omega (arith, before)) in
        let room = room-of layout longest at usable in
        let busy = run.can_trace.busy at r.frame before (offered-request longest at cycle r room below waits) in
        let found = Contains-any (λ s. (s.start ≤ at) × (at < end_of s)) trace busy in
        let sent = found.0 in
        let covers = found.2 in
        let request = is-request sends layout known requests openings count trace run cycle below sent found.1 at covers.0 covers.1 room.open_ (omega (arith, room.whole, waits.short)) in
        let opened : async_open layout cycle ≤ sent.start = elim (cases_lt sent.start (async_open layout cycle)) [
          | inl early ↦
              let ended = free-at sends layout known requests openings count trace run cycle below sent found.1 early in
              absurd (omega (arith, ended, covers, room.open_))
          | inr is ↦ is
        ] in
        let its : IsRoom layout longest sent.start cycle = record { open_ = opened; whole = omega (arith, room.whole, covers) } in
        let least = All-contains (λ s. IsLeastOffered (offered sends layout requests openings) (started_before s.start trace) s.start s.frame) trace sent run.can_trace.least found.1 in
        record {
          sent = sent;
          among = found.1;
          from = covers.0;
          before = covers.1;
          asynchronous = request;
          goes_first = λ other also. least.least other.frame (offered-request longest sent.start cycle other its below also);
        };
  }

module _ (requests : List Request) (trace : List TimedFrame) (usable : ℕ → Bool) (longest until : ℕ) (answering : IsAnswering requests trace usable longest until) where
  module _ (blocked low high : ℕ) (test : TimedFrame → Bool) (within : high ≤ until) (soon : EndSoon blocked low trace) where
    -- a request waits, and the frames that start then with an identifier up to its own pass
    pub record IsFilled (at : ℕ) : Type 0 where
      pub request : Request
      pub waits : WaitsOnBus requests trace longest at request
      pub passing : (sent : TimedFrame) → Contains trace sent → sent.start ≡ at → least_asynchronous ≤ sent.frame.identifier
          → sent.frame.identifier ≤ request.frame.identifier → test sent ≡ true

    covered : ((at : ℕ) → low ≤ at → at < high → IsFilled at)
        → (at : ℕ) → low + blocked ≤ at → at < high → usable at ≡ true → IsCovered test usable trace at
    covered filled at from before is_usable_ =
        let now = filled at (omega arith) before in
        let is = answering.answers at now.request (omega (arith, before, within)) is_usable_ now.waits in
        let late : low ≤ is.sent.start = elim (cases_lt is.sent.start low) [
          | inl early ↦
              let ended = All-contains (λ s. least_asynchronous ≤ s.frame.identifier → s.start < low → end_of s ≤ low + blocked) trace is.sent soon is.among is.asynchronous early in
              absurd (omega (arith, ended, is.before, from))
          | inr then_ ↦ then_
        ] in
        let then_ = filled is.sent.start late (omega (arith, is.from, before)) in
        record {
          sent = is.sent;
          among = is.among;
          passed = then_.passing is.sent is.among refl is.asynchronous (is.goes_first then_.request then_.waits);
          from = is.from;
          before = is.before;
        }

    pub fills : ((at : ℕ) → low ≤ at → at < high → IsFilled at)
        → count_below usable high ≤ count_below usable (low + blocked) + time_of test trace
    fills filled = elim (cases_lt high (low + blocked)) [
      | inl short ↦
          let more : count_below usable high ≤ count_below usable (low + blocked)
          = subst (λ n. count_below usable high ≤ count_below usable n) (omega arith) (count-more usable high (low + blocked - high)) in
          omega (arith, more)
      | inr long ↦ covered-times test usable trace (low + blocked) high long (covered filled)
    ]

  pub level-fills : (id low high blocked : ℕ) → high ≤ until → EndSoon blocked low trace
      → ((at : ℕ) → low ≤ at → at < high → IsPressed requests trace longest id at)
      → count_below usable high ≤ count_below usable (low + blocked) + time_of (is_ahead id low high) trace
  level-fills id low high blocked within soon pressed =
      fills blocked low high (is_ahead id low high) within soon (λ at from before.
      let is = pressed at from before in
      record {
        request = is.request;
        waits = is.waits;
        passing = λ sent has same high_id least.
            and_from (is_inside low high sent) (nat_le least_asynchronous sent.frame.identifier && nat_lt sent.frame.identifier id)
            (and_from (nat_le low sent.start) (nat_lt sent.start high) (le-leb low sent.start (omega (arith, same, from))) (lt-ltb sent.start high (omega (arith, same, before))))
            (and_from (nat_le least_asynchronous sent.frame.identifier) (nat_lt sent.frame.identifier id) (le-leb least_asynchronous sent.frame.identifier high_id)
            (lt-ltb sent.frame.identifier id (omega (arith, least, is.level))));
      })
