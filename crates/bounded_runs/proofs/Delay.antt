-- Requests of streams start within their bound.
use Rattle.std.proofs.Common.{◌≡◌, ℕ, zero, suc, ◌+◌, ◌-◌, ◌*◌, ◌<◌, ◌≤◌, min, Bool, true, false, cond, List, All, length, Contains, Some, inl, inr, sym, ap, ◌∙◌, subst, arith, drop, slice_get, get_or, mul-le-mul_right}
use Rattle.std.specs.Prelude.{nat_lt, nat_le, ◌==◌, ◌&&◌, ◌||◌}
use Rattle.std.proofs.lemmas.Bool.{and_from, and_parts, cases_lt, eq-eqb, eqb-true, leb-true, le-leb, lt-ltb, or_left, or_right}
use Rattle.std.proofs.lemmas.List.Elements.{All-contains, All-drop, All-filter, Contains-get_or, filter_passes}
use Rattle.profile.specs.Limits.{least_asynchronous}
use Rattle.can_frame.specs.Wire.{wire_length}
use Rattle.can_frame.specs.declared.data_frame.TimedFrame.{TimedFrame}
use Rattle.can_frame.proofs.Shared.{wire-most}
use Rattle.stuff_bound.specs.Stuffing.{worst}
use Rattle.cycle_layout.specs.Layout.{CycleLayout}
use Rattle.async_window.specs.declared.request.Request.{Request}
use Rattle.async_window.specs.Waiting.{IsRequestWaiting, requests_of, unsent_after}
use Rattle.bus_line.specs.Trace.{started_before}
use Rattle.async_bound.specs.declared.stream.BurstStream.{BurstStream}
use Rattle.bounded_runs.specs.Runs.{EndSoon, is_ahead, is_inside}
use Rattle.async_bound.specs.Bound.{IsBound, demand, own_before}
use Rattle.async_bound.specs.Room.{count_below, is_usable}
use Rattle.async_bound.specs.Streams.{AreStreams, IsStream}
use Rattle.bounded_runs.specs.Requests.{AreOfStreams, IsApart, IsOfStream}
use Rattle.bounded_runs.specs.Runs.{StartsWithin}
use Rattle.bounded_runs.proofs.Arrivals.{Rise, arrived, earlier, few-arrive, first-of, from-place, stands, to-place}
use Rattle.bounded_runs.proofs.Begun.{begun, begun-le, begun-next, crossing}
use Rattle.bounded_runs.proofs.Clear.{IsBehind, IsClearOf, last-clear}
use Rattle.bounded_runs.proofs.Demand.{begun-split, inside, is_own, own-time, time-demand}
use Rattle.async_bound.proofs.Shared.{sum-le-two}
use Rattle.bounded_runs.proofs.Fills.{IsFilled, fills}
use Rattle.bounded_runs.proofs.Requests.{IsAnswering, begun-arrived, some-long}

same-one : (one other : Request) (rs : List Request) (place : ℕ) → slice_get (drop place rs) 0 ≡ Some one → slice_get (drop place rs) 0 ≡ Some other → one ≡ other
same-one one other rs place is also = cc

either : (b c : Bool) (len : ℕ) → cond (b || c) len 0 ≤ cond b len 0 + cond c len 0
either true c len = omega arith
either false true len = omega arith
either false false len = omega arith

-- a bound by the times that are usable, whichever these are
pub record IsBoundBy (usable : ℕ → Bool) (streams : List BurstStream) (stream : BurstStream) (longest blocked span : ℕ) : Type 0 where
  pub among : Contains streams stream
  pub short : All (λ other. other.id ≤ stream.id → worst other.bytes ≤ longest) streams
  pub blocking : All (λ other. worst other.bytes ≤ blocked + 1) streams
  pub within : span ≤ stream.gap
  pub room : (low : ℕ) → count_below usable (low + blocked) + (demand streams stream.id span + own_before stream longest) < count_below usable (low + span)

pub bound-by : (layout : CycleLayout) (streams : List BurstStream) (stream : BurstStream) (longest blocked span : ℕ) → IsBound layout streams stream longest blocked span
    → IsBoundBy (is_usable layout longest) streams stream longest blocked span
bound-by layout streams stream longest blocked span is = record { among = is.among; short = is.short; blocking = is.blocking; within = is.within; room = is.room }

module _ (requests : List Request) (trace : List TimedFrame) (usable : ℕ → Bool) (longest until : ℕ) (answering : IsAnswering requests trace usable longest until)
    (streams : List BurstStream) (are : AreStreams streams) (of : AreOfStreams streams requests) where
  -- the request at a place of an identifier's
  abbrev IsAt : ℕ → ℕ → Request → Type 0
  IsAt id place r = slice_get (drop place (requests_of requests id)) 0 ≡ Some r

  of-stream : (id place : ℕ) (r : Request) → IsAt id place r → IsOfStream streams r
  of-stream id place r is =
      first-of (IsOfStream streams) (drop place (requests_of requests id)) r
      (All-drop (IsOfStream streams) place (requests_of requests id) (All-filter (λ x. x.frame.identifier == id) (IsOfStream streams) requests of.known)) is

  id-of : (id place : ℕ) (r : Request) → IsAt id place r → r.frame.identifier ≡ id
  id-of id place r is =
      let passes = first-of (λ x. (x.frame.identifier == id) ≡ true) (drop place (requests_of requests id)) r
      (All-drop (λ x. (x.frame.identifier == id) ≡ true) place (requests_of requests id) (filter_passes (λ x. x.frame.identifier == id) requests)) is in
      eqb-true r.frame.identifier id passes

  apart-of : (stream : BurstStream) → Contains streams stream → IsApart stream (requests_of requests stream.id)
  apart-of stream has = All-contains (λ s. IsApart s (requests_of requests s.id)) streams stream of.apart has

  rise-of : (stream : BurstStream) → Contains streams stream → Rise (requests_of requests stream.id)
  rise-of stream has = All-contains (λ s. Rise (requests_of requests s.id)) streams stream of.in_order has

  async-of : (stream : BurstStream) → Contains streams stream → least_asynchronous ≤ stream.id
  async-of stream has = (All-contains IsStream streams stream are has).asynchronous

  started-arrived : (stream : BurstStream) → Contains streams stream → (at : ℕ) → begun stream.id at trace ≤ arrived at (requests_of requests stream.id)
  started-arrived stream has at = begun-arrived requests trace answering.ordered answering.of_request stream.id (async-of stream has)
      (rise-of stream has) at

  -- the stream of a request's frame
  record IsFrameOf (sent : TimedFrame) : Type 0 where
    stream : BurstStream
    among : Contains streams stream
    same : sent.frame.identifier ≡ stream.id
    short : sent.len ≤ worst stream.bytes

  frame-of : (sent : TimedFrame) → Contains trace sent → least_asynchronous ≤ sent.frame.identifier → IsFrameOf sent
  frame-of sent has high =
      let its = answering.of_request sent has high in
      let own = of-stream sent.frame.identifier (begun sent.frame.identifier sent.start trace) its.request its.is in
      let whole = All-contains (λ s. s.len ≡ wire_length s.frame) trace sent answering.ordered.lengths has in
      let few : length sent.frame.bytes ≤ own.stream.bytes = subst (λ f. length f.bytes ≤ own.stream.bytes) (sym its.its_frame) own.short in
      record {
        stream = own.stream;
        among = own.among;
        same = ap (λ f. f.identifier) its.its_frame ∙ own.same;
        short = omega (arith, whole, few, wire-most sent.frame);
      }

  module _ (stream : BurstStream) (blocked span : ℕ) (bound : IsBoundBy usable streams stream longest blocked span) where
    ends-soon : (at : ℕ) → EndSoon blocked at trace
    ends-soon at k d within high early =
        let sent = get_or trace k d in
        let its = frame-of sent (Contains-get_or trace k d within) high in
        let short = All-contains (λ s. worst s.bytes ≤ blocked + 1) streams its.stream bound.blocking its.among in
        omega (arith, short, its.short, early)

    short-of : (r : Request) → IsOfStream streams r → r.frame.identifier ≤ stream.id → worst (length r.frame.bytes) ≤ longest
    short-of r own level =
        let short = All-contains (λ s. s.id ≤ stream.id → worst s.bytes ≤ longest) streams own.stream bound.short own.among (omega (arith, own.same, level)) in
        omega (arith, short, own.short)

    ahead : (low at : ℕ) (sent : TimedFrame) → low ≤ at → at < low + span → sent.start ≡ at → least_asynchronous ≤ sent.frame.identifier
        → sent.frame.identifier < stream.id → is_ahead stream.id low (low + span) sent ≡ true
    ahead low at sent from before now high below =
        and_from (is_inside low (low + span) sent) (nat_le least_asynchronous sent.frame.identifier && nat_lt sent.frame.identifier stream.id)
        (and_from (nat_le low sent.start) (nat_lt sent.start (low + span)) (le-leb low sent.start (omega (arith, now, from))) (lt-ltb sent.start (low + span) (omega (arith, now, before))))
        (and_from (nat_le least_asynchronous sent.frame.identifier) (nat_lt sent.frame.identifier stream.id) (le-leb least_asynchronous sent.frame.identifier high) (lt-ltb sent.frame.identifier stream.id below))

    module _ (place : ℕ) (q : Request) (is : IsAt stream.id place q) (within : q.at + span ≤ until)
        (sofar : place + 1 ≤ stream.burst + begun stream.id q.at trace) (not_yet : begun stream.id (q.at + span) trace ≤ place) where
      module _ (low : ℕ) (before : low ≤ q.at) (behind : (later : ℕ) → low < later → later ≤ q.at → IsBehind requests trace stream.id later streams)
          (inside_run : low + span ≤ until) where
        abbrev mid : ℕ
        mid = min q.at (low + span)

        mid-order : mid ≤ low + span
        mid-order = omega arith

        abbrev both : TimedFrame → Bool
        both sent = is_ahead stream.id low (low + span) sent || is_own mid (low + span) mid-order stream.id sent

        abbrev Filled : ℕ → Type 0
        Filled at = IsFilled requests trace usable longest until answering blocked low (low + span) both inside_run (ends-soon low) at

        -- up to the arrival a request of a lower identifier waits
        filled-before : (at : ℕ) → low ≤ at → at < low + span → at < q.at → Filled at
        filled-before at from until early =
            let one = behind (suc at) (omega arith) (omega arith) in
            let more : begun one.stream.id at trace < arrived (suc at) (requests_of requests one.stream.id) = omega (arith, one.more, begun-next one.stream.id at trace) in
            let rise = rise-of one.stream one.among in
            let head = stands (suc at) (begun one.stream.id at trace) (requests_of requests one.stream.id) rise more in
            let same = id-of one.stream.id (begun one.stream.id at trace) head.request head.is in
            let own = of-stream one.stream.id (begun one.stream.id at trace) head.request head.is in
            let under = one.below in
            record {
              request = head.request;
              waits = record {
                waiting = subst (λ n. IsRequestWaiting (unsent_after requests (started_before at trace) n) at head.request) (sym same)
                    (record { first = head.is; arrived = omega (arith, head.before) });
                short = short-of head.request own (omega (arith, same, under));
              };
              passing = λ sent has now high least.
                  or_left (is_ahead stream.id low (low + span) sent) (is_own mid (low + span) mid-order stream.id sent) (ahead low at sent from until now high (omega (arith, least, same, under)));
            }

        -- and from then on this one
        filled-behind : (at : ℕ) → low ≤ at → at < low + span → q.at ≤ at → Filled at
        filled-behind at from until late =
            let rs = requests_of requests stream.id in
            let few : begun stream.id at trace ≤ place = omega (arith, not_yet, begun-le stream.id at (q.at + span) trace (omega arith)) in
            let head = earlier (begun stream.id at trace) place (requests_of requests stream.id) q (rise-of stream bound.among)
            (to-place place (requests_of requests stream.id) q is) few in
            let first = from-place (begun stream.id at trace) (requests_of requests stream.id) head.request head.is in
            let same = id-of stream.id (begun stream.id at trace) head.request first in
            let own = of-stream stream.id (begun stream.id at trace) head.request first in
            record {
              request = head.request;
              waits = record {
                waiting = subst (λ n. IsRequestWaiting (unsent_after requests (started_before at trace) n) at head.request) (sym same)
                    (record { first = first; arrived = omega (arith, head.sooner, late) });
                short = short-of head.request own (omega (arith, same));
              };
              passing = λ sent has now high least. elim (cases_lt sent.frame.identifier stream.id) [
                | inl lower ↦
                    or_left (is_ahead stream.id low (low + span) sent) (is_own mid (low + span) mid-order stream.id sent) (ahead low at sent from until now high lower)
                | inr other ↦
                    or_right (is_ahead stream.id low (low + span) sent) (is_own mid (low + span) mid-order stream.id sent)
                    (and_from (is_inside mid (low + span) sent) (sent.frame.identifier == stream.id)
                    (and_from (nat_le mid sent.start) (nat_lt sent.start (low + span)) (le-leb mid sent.start (omega (arith, now, late))) (lt-ltb sent.start (low + span) (omega (arith, now, until))))
                    (eq-eqb sent.frame.identifier stream.id (omega (arith, other, least, same))))
              ];
            }

        filled : (at : ℕ) → low ≤ at → at < low + span → Filled at
        filled at from until = elim (cases_lt at q.at) [
          | inl early ↦ filled-before at from until early
          | inr late ↦ filled-behind at from until late
        ]

        own-few : inside mid (low + span) mid-order stream.id trace ≤ stream.burst - 1
        own-few =
            let split = begun-split mid (low + span) mid-order stream.id trace in
            let last = begun-le stream.id (low + span) (q.at + span) trace (omega (arith, before)) in
            elim (cases_lt (low + span) q.at) [
              | inl short ↦
                  let here : mid ≡ low + span = omega (arith, short) in
                  let none : begun stream.id mid trace ≡ begun stream.id (low + span) trace = ap (λ n. begun stream.id n trace) here in
                  omega (arith, split, none)
              | inr long ↦
                  let here : mid ≡ q.at = omega (arith, long) in
                  let from : begun stream.id mid trace ≡ begun stream.id q.at trace = ap (λ n. begun stream.id n trace) here in
                  omega (arith, split, from, last, not_yet, sofar)
            ]

        refuted : IsClearOf requests trace stream.id low streams → ⊥
        refuted clear =
            let order : low ≤ low + span = omega arith in
            let all = fills requests trace usable longest until answering blocked low (low + span) both inside_run (ends-soon low) filled in
            let need = time-demand low (low + span) order streams stream.id span trace
            (λ k d there passes.
            let sent = get_or trace k d in
            let has = Contains-get_or trace k d there in
            let parts = and_parts (is_inside low (low + span) sent) (nat_le least_asynchronous sent.frame.identifier && nat_lt sent.frame.identifier stream.id) passes in
            let ids = and_parts (nat_le least_asynchronous sent.frame.identifier) (nat_lt sent.frame.identifier stream.id) parts.1 in
            let its = frame-of sent has (leb-true least_asynchronous sent.frame.identifier ids.0) in
            record { stream = its.stream; among = its.among; same = its.same; short = its.short })
            (λ other has below.
            let split = begun-split low (low + span) order other.id trace in
            let started = started-arrived other has (low + span) in
            let cleared = clear other has below in
            let some = (All-contains IsStream streams other are has).distinct in
            let few = few-arrive other (requests_of requests other.id) (rise-of other has) (apart-of other has) low span some in
            omega (arith, split, started, cleared, few)) in
            let two = sum-le-two (λ s. cond (both s) s.len 0) (λ s. cond (is_ahead stream.id low (low + span) s) s.len 0)
            (λ s. cond (is_own mid (low + span) mid-order stream.id s) s.len 0) trace
            (λ s. either (is_ahead stream.id low (low + span) s) (is_own mid (low + span) mid-order stream.id s) s.len) in
            let own = own-time mid (low + span) mid-order stream.id longest trace
            (λ k d there passes.
            let sent = get_or trace k d in
            let parts = and_parts (is_inside mid (low + span) sent) (sent.frame.identifier == stream.id) passes in
            let its_id = eqb-true sent.frame.identifier stream.id parts.1 in
            let its = frame-of sent (Contains-get_or trace k d there) (omega (arith, its_id, async-of stream bound.among)) in
            let short = All-contains (λ s. s.id ≤ stream.id → worst s.bytes ≤ longest) streams its.stream bound.short its.among (omega (arith, its.same, its_id)) in
            omega (arith, short, its.short)) in
            let most : inside mid (low + span) mid-order stream.id trace * longest ≤ own_before stream longest = mul-le-mul_right longest own-few in
            let room = bound.room low in
            omega (arith, all, need, two, own, most, room)

    next-starts : (place : ℕ) (q : Request) → IsAt stream.id place q → q.at + span ≤ until → place + 1 ≤ stream.burst + begun stream.id q.at trace
        → place + 1 ≤ begun stream.id (q.at + span) trace
    next-starts place q is within sofar = elim (cases_lt place (begun stream.id (q.at + span) trace)) [
      | inl done ↦ omega (arith, done)
      | inr not_yet ↦
          let last = last-clear requests trace stream.id streams q.at in
          let early = last.before in
          absurd (refuted place q is within sofar not_yet last.at early last.behind (omega (arith, within, early)) last.clear)
    ]

    start-by : (most place : ℕ) (q : Request) → place < most → IsAt stream.id place q → q.at + span ≤ until
        → place + 1 ≤ begun stream.id (q.at + span) trace
    start-by zero place q small is within = absurd (omega arith)
    start-by (suc most) place q small is within = elim (cases_lt place stream.burst) [
      | inl first ↦ next-starts place q is within (omega (arith, first))
      | inr later ↦
          let some = (All-contains IsStream streams stream are bound.among).some in
          let rs = requests_of requests stream.id in
          let here = to-place place (requests_of requests stream.id) q is in
          let before = earlier (place - stream.burst) place (requests_of requests stream.id) q (rise-of stream bound.among) here (omega arith) in
          let behind : slice_get (requests_of requests stream.id) (place - stream.burst + stream.burst) ≡ Some q
          = subst (λ k. slice_get (requests_of requests stream.id) k ≡ Some q) (omega (arith, later)) here in
          let gap = apart-of stream bound.among (place - stream.burst) before.request q before.is behind in
          let order : before.request.at + span ≤ q.at = omega (arith, gap, bound.within) in
          let sofar = start-by most (place - stream.burst) before.request (omega (arith, some, small, later))
          (from-place (place - stream.burst) (requests_of requests stream.id) before.request before.is) (omega (arith, order, within)) in
          next-starts place q is within (omega (arith, sofar, later, begun-le stream.id (before.request.at + span) q.at trace order))
    ]

    all-start : (place : ℕ) (q : Request) → IsAt stream.id place q → q.at + span ≤ until
        → place + 1 ≤ begun stream.id (q.at + span) trace
    all-start place q is within = start-by (suc place) place q (omega arith) is within

    few-before : (place : ℕ) (q : Request) → IsAt stream.id place q → begun stream.id q.at trace ≤ place
    few-before place q is = elim (cases_lt place (arrived q.at (requests_of requests stream.id))) [
      | inl more ↦
          let other = stands q.at place (requests_of requests stream.id) (rise-of stream bound.among) more in
          let same : other.request ≡ q = same-one other.request q (requests_of requests stream.id) place other.is is in
          let early : q.at < q.at = subst (λ r. r.at < q.at) same other.before in
          absurd (omega (arith, early))
      | inr few ↦ omega (arith, few, started-arrived stream bound.among q.at)
    ]

    pub starts-within : (place : ℕ) (q : Request) → slice_get (requests_of requests stream.id) place ≡ Some q → q.at + span ≤ until
        → StartsWithin trace place span q
    starts-within place q at_place within =
        let is = from-place place (requests_of requests stream.id) q at_place in
        let found = crossing stream.id q.at (q.at + span) place trace (some-long requests trace answering.ordered answering.of_request) answering.ordered.apart
        (omega arith) (few-before place q is) (all-start place q is within) in
        let sent = found.starts.sent in
        let same = found.starts.same in
        let now = found.starts.now in
        let its = answering.of_request sent found.starts.among (omega (arith, same, async-of stream bound.among)) in
        let its_id = subst (λ n. IsAt n (begun n sent.start trace) its.request) same its.is in
        let its_at = subst (λ n. IsAt stream.id (begun stream.id n trace) its.request) now its_id in
        let its_place = subst (λ n. IsAt stream.id n its.request) found.number its_at in
        let one : its.request ≡ q = same-one its.request q (requests_of requests stream.id) place its_place is in
        let whole = All-contains (λ s. s.len ≡ wire_length s.frame) trace sent answering.ordered.lengths found.starts.among in
        let few : length sent.frame.bytes ≡ length q.frame.bytes = ap (λ f. length f.bytes) (its.its_frame ∙ ap (λ r. r.frame) one) in
        let number : begun stream.id sent.start trace ≡ place = ap (λ n. begun stream.id n trace) now ∙ found.number in
        record {
          sent = sent;
          among = found.starts.among;
          its_frame = its.its_frame ∙ ap (λ r. r.frame) one;
          number = ap (λ n. begun n sent.start trace) (id-of stream.id place q is) ∙ number;
          from = omega (arith, found.from, now);
          before = omega (arith, found.before, now);
          ends = omega (arith, found.before, now, whole, few, wire-most sent.frame);
        }
