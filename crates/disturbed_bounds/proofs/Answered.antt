-- On a disturbed bus requests are answered at each usable time that is not lost, so they start within their bound.
use Rattle.std.proofs.Common.{◌≡◌, ℕ, ◌+◌, ◌-◌, ◌*◌, ◌/◌, ◌<◌, ◌≤◌, Bool, true, cond, List, ◌++◌, All, Contains, Some, inl, inr, refl, sym, subst, arith, length, get_or, slice_get, div-lt_iff_lt-mul}
use Rattle.std.specs.Prelude.{nat_lt}
use Rattle.std.proofs.lemmas.Bool.{and_parts, cases_lt}
use Rattle.std.proofs.lemmas.List.Elements.{All-contains, Contains-append_left, Contains-get_or}
use Rattle.std.proofs.lemmas.List.Sums.{sum_by-append}
use Rattle.profile.specs.Limits.{least_asynchronous}
use Rattle.stuff_bound.specs.Stuffing.{worst}
use Rattle.can_frame.specs.declared.data_frame.TimedFrame.{TimedFrame}
use Rattle.trigger_codec.proofs.Shared.{low_ids}
use Rattle.cycle_layout.specs.Layout.{CycleLayout, IsAllowed, async_open}
use Rattle.requirement_table.specs.Opening.{Opening, width_of}
use Rattle.async_window.specs.declared.request.Request.{Request}
use Rattle.async_window.specs.Waiting.{requests_of}
use Rattle.async_bound.specs.declared.stream.BurstStream.{BurstStream}
use Rattle.async_bound.specs.Bound.{IsBound, demand, own_before}
use Rattle.async_bound.specs.Room.{count_below, is_usable}
use Rattle.async_bound.specs.Streams.{AreStreams, IsStream, arrivals}
use Rattle.bus_line.specs.Trace.{end_of, started_before}
use Rattle.node_model.specs.Opening.{end_of_cycle, start_of}
use Rattle.master_core.specs.declared.event.Event.{Event}
use Rattle.master_core.specs.History.{IsLegal, next_of}
use Rattle.master_core.specs.Openings.{openings_of}
use Rattle.cycle_engine.specs.Cycle.{FitsWindow}
use Rattle.cycle_engine.specs.Offered.{SendsWhole}
use Rattle.kept_run.specs.Setting.{Setting}
use Rattle.kept_run.specs.Served.{ForgetsEnds}
use Rattle.bounded_runs.specs.Requests.{AreOfStreams}
use Rattle.bounded_runs.specs.Runs.{StartsWithin, WaitsOnBus}
use Rattle.bounded_runs.proofs.Shared.{IsAnswered, IsAnswering, IsBoundBy, IsRoom, OfRequest, count-more, room-of, starts-within}
use Rattle.disturbed_runs.specs.Outages.{Outage, end_of_outage, lost_in}
use Rattle.disturbed_runs.specs.Offered.{AreGuarded, Asks, Late, Silent, may_start, may_start_in, triggers_from}
use Rattle.disturbed_runs.specs.Budget.{IsReserved}
use Rattle.disturbed_runs.proofs.Shared.{Any-element, all-keep, before-cycle, by, fits-all, keep-guard, might, one-kept}
use Rattle.disturbed_bounds.specs.Bounds.{GoesFirst, SendsRequests, offered_requests, wider}
use Rattle.disturbed_bounds.proofs.Free.{counted-to, free-clear, is_free, lost-less, usable_free}

module _ (setting : Setting) (reserve guard : ℕ) (late : Late) (silent : Silent) (asks : Asks) (history : List Event) (outages : List Outage) (trace : List TimedFrame)
    (is_reserved : IsReserved setting reserve) (whole : SendsWhole setting.sends) (forgets : ForgetsEnds setting.sends) (legal : IsLegal setting.rules history)
    (sends : SendsRequests setting reserve guard late silent asks history outages trace) (longest : ℕ) where
  abbrev layout : CycleLayout
  layout = setting.layout

  abbrev openings : List Opening
  openings = openings_of history

  abbrev wide : CycleLayout
  wide = wider layout (reserve + guard)

  abbrev until : ℕ
  until = next_of history * layout.cycle

  guarded : AreGuarded reserve late layout asks
  guarded = keep-guard reserve guard late layout setting.requests asks is_reserved.known.asynchronous sends.are_requests

  some-time : 0 < layout.cycle
  some-time = let range = is_reserved.known.known.cycle_range.above in omega arith

  fit : (o : Opening) → Contains openings o → FitsWindow layout o
  fit o opened = All-contains (FitsWindow layout) openings o (fits-all setting is_reserved.known history legal) opened

  -- a request that waits in the room of a cycle is offered
  offered-waiting : (at cycle : ℕ) (o : Opening) (r : Request) → Contains openings o → o.cycle ≡ cycle → IsRoom wide longest at cycle → WaitsOnBus setting.requests trace longest at r
      → offered_requests (reserve + guard) layout setting.requests openings (started_before at trace) at r.frame
  offered-waiting at cycle o r opened number room waits = (
    o,
    opened,
    record {
      request = r;
      may_start = record {
        waiting = waits.waiting;
        allowed = subst (λ c. IsAllowed layout (length r.frame.bytes) at c (width_of o + (reserve + guard))) (sym number)
            (record { opened = room.open_; whole = (let narrow = (fit o opened).width in omega (arith, room.whole, waits.short, narrow)) });
      };
      its_frame = refl;
    },
  )

  -- where a frame starts in a cycle, it might start
  might-there : (o : Opening) → Contains openings o → (s : TimedFrame) → Contains trace s → start_of layout o ≤ s.start → s.start < end_of_cycle layout o
      → may_start_in reserve late silent setting.sends layout asks o (started_before s.start trace) s.start s.frame
  might-there = might setting reserve late silent asks history outages trace is_reserved whole forgets guarded legal sends.run

  of-asked : (sent : TimedFrame) (o : Opening) → least_asynchronous ≤ sent.frame.identifier
      → may_start_in reserve late silent setting.sends layout asks o (started_before sent.start trace) sent.start sent.frame → OfRequest setting.requests trace sent
  of-asked sent o high (inl trigger) =
      let low = All-contains (λ f. f.identifier ≤ 1) (triggers_from reserve layout o) sent.frame (low_ids layout.slots o.cycle (width_of o + reserve) o.mask) trigger.among in
      absurd (omega (arith, low, high))
  of-asked sent o high (inr (inl asked)) =
      let is = sends.are_requests o (started_before sent.start trace) sent.start sent.frame asked in
      record { request = is.request; is = is.may_start.waiting.first; arrived_ = is.may_start.waiting.arrived; its_frame = is.its_frame }
  of-asked sent o high (inr (inr (slot, is))) = absurd (omega (arith, is.identifier, is.known, high))

  of-request : (sent : TimedFrame) → Contains trace sent → least_asynchronous ≤ sent.frame.identifier → OfRequest setting.requests trace sent
  of-request sent has high =
      let is = All-contains (λ x. may_start reserve late silent setting.sends layout asks openings (started_before x.start trace) x.start x.frame) trace sent sends.run.allowed has in
      of-asked sent is.0 high is.2

  abbrev usable : ℕ → Bool
  usable = usable_free (is_usable wide longest) outages

  -- a frame that covers a time of a cycle's room started in that room, and is a request's
  record IsInRoom (o : Opening) (sent : TimedFrame) : Type 0 where
    opened_ : async_open layout o.cycle ≤ sent.start
    high : least_asynchronous ≤ sent.frame.identifier

  in-room : (at : ℕ) (o : Opening) → Contains openings o → 0 < longest → IsRoom wide longest at o.cycle → (sent : TimedFrame) → Contains trace sent → sent.start ≤ at → at < end_of sent → IsInRoom o sent
  in-room at o opened some room sent has from before =
      let keep = all-keep setting reserve late silent asks history outages trace is_reserved whole forgets guarded legal sends.run sends.budget o opened in
      let one = one-kept setting reserve late silent asks history outages trace is_reserved whole forgets guarded legal sends.run o opened keep in
      let past = before-cycle setting reserve late silent asks history outages trace is_reserved whole forgets guarded legal sends.run sends.budget o opened in
      let begun : start_of layout o ≤ sent.start = elim (cases_lt sent.start (start_of layout o)) [
        | inl early ↦ let ended = past sent has early in absurd (omega (arith, ended, before, room.open_))
        | inr is ↦ is
      ] in
      let opened_ : async_open layout o.cycle ≤ sent.start = elim (cases_lt sent.start (async_open layout o.cycle)) [
        | inl early ↦
            let ended = All-contains (λ s. start_of layout o ≤ s.start → s.start < async_open layout o.cycle → end_of s ≤ async_open layout o.cycle) trace sent one.free has begun early in
            absurd (omega (arith, ended, before, room.open_))
        | inr is ↦ is
      ] in
      let narrow = (fit o opened).width in
      let inside : sent.start < end_of_cycle layout o = omega (arith, room.whole, from, some) in
      record {
        opened_ = opened_;
        high = elim (might-there o opened sent has begun inside) [
          | inl trigger ↦ absurd (omega (arith, trigger.within, opened_))
          | inr (inl asked) ↦ (guarded o (started_before sent.start trace) sent.start sent.frame asked).identifier
          | inr (inr (slot, is)) ↦ absurd (omega (arith, is.late_enough, room.whole, from, narrow, some))
        ];
      }

  -- so a request that waits at a usable time is answered
  answers : (at : ℕ) (r : Request) → at < until → usable at ≡ true → WaitsOnBus setting.requests trace longest at r → IsAnswered setting.requests trace longest at
  answers at r before is_usable_ waits =
      let two = and_parts (is_usable wide longest at) (is_free outages at) is_usable_ in
      let room = room-of wide longest at two.0 in
      let some : 0 < longest = omega (arith, waits.short) in
      let below : at / layout.cycle < next_of history = (div-lt_iff_lt-mul some-time).1 before in
      let opened = (by setting reserve late silent asks history outages trace is_reserved whole forgets guarded legal sends.run).opened (at / layout.cycle) below in
      let o : Opening = opened.0 in
      let here : IsRoom wide longest at o.cycle = subst (λ c. IsRoom wide longest at c) (sym opened.2) room in
      elim (sends.requests.busy at r.frame before (offered-waiting at o.cycle o r opened.1 refl here waits)) [
        | inl some_ ↦
            let found = Any-element (λ s. (s.start ≤ at) × (at < end_of s)) trace some_ in
            let sent = found.0 in
            let its = in-room at o opened.1 some here sent found.1 found.2.0 found.2.1 in
            let covers = found.2 in
            let there : IsRoom wide longest sent.start o.cycle = record { open_ = its.opened_; whole = omega (arith, here.whole, covers) } in
            let first = All-contains (GoesFirst (offered_requests (reserve + guard) layout setting.requests openings) trace) trace sent sends.first found.1 in
            record {
              sent = sent;
              among = found.1;
              from = found.2.0;
              before = found.2.1;
              asynchronous = its.high;
              goes_first = λ other also. first other.frame (offered-waiting sent.start o.cycle o other opened.1 refl there also);
            }
        | inr lost ↦
            let is = Any-element (λ x. (x.start ≤ at) × (at < end_of_outage x)) outages lost in
            absurd (free-clear outages at is.0 two.1 is.1 is.2.0 is.2.1)
      ]

  pub answering : IsAnswering setting.requests trace usable longest until
  answering = record { ordered = sends.run.ordered; of_request = of-request; answers = answers }

  -- The bound

  module _ (streams faults : List BurstStream) (stream : BurstStream) (blocked span : ℕ) (has : Contains streams stream)
      (bound : IsBound wide (streams ++ faults) stream longest blocked span) (little : (low : ℕ) → lost_in low (low + span) outages ≤ demand faults stream.id span) where
    front-all : (P : BurstStream → Type 0) → All P (streams ++ faults) → All P streams
    front-all P all k d within =
        let x = get_or streams k d in
        All-contains P (streams ++ faults) x all (Contains-append_left streams faults x (Contains-get_or streams k d within))

    room-free : (low : ℕ) → count_below usable (low + blocked) + (demand streams stream.id span + own_before stream longest) < count_below usable (low + span)
    room-free low =
        let room = bound.room low in
        let both = sum_by-append (λ s. cond (nat_lt s.id stream.id) (arrivals s span * worst s.bytes) 0) streams faults in
        elim (cases_lt (low + span) (low + blocked)) [
          | inl short ↦
              let to_ : low + span + (blocked - span) ≡ low + blocked = omega (arith, short) in
              let more : count_below (is_usable wide longest) (low + span) ≤ count_below (is_usable wide longest) (low + blocked)
              = subst (λ n. count_below (is_usable wide longest) (low + span) ≤ count_below (is_usable wide longest) n) to_ (count-more (is_usable wide longest) (low + span) (blocked - span)) in
              absurd (omega (arith, more, room))
          | inr long ↦
              let count = counted-to (is_usable wide longest) outages (low + blocked) (low + span) long in
              let less = lost-less low (low + blocked) (low + span) outages (omega arith) in
              omega (arith, room, both, count, less, little low)
        ]

    pub bound-free : IsBoundBy usable streams stream longest blocked span
    bound-free = record {
      among = has;
      short = front-all (λ other. other.id ≤ stream.id → worst other.bytes ≤ longest) bound.short;
      blocking = front-all (λ other. worst other.bytes ≤ blocked + 1) bound.blocking;
      within = bound.within;
      room = room-free;
    }

    pub starts : AreStreams (streams ++ faults) → AreOfStreams streams setting.requests → (place : ℕ) (request : Request)
        → slice_get (requests_of setting.requests stream.id) place ≡ Some request → request.at + span ≤ until → StartsWithin trace place span request
    starts are of place request is within =
        starts-within setting.requests trace usable longest until answering streams (front-all IsStream are) of stream blocked span bound-free place request is within
