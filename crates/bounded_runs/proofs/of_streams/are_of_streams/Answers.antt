use Rattle.std.proofs.Common.{◌≡◌, ℕ, ◌+◌, ◌<◌, ◌≤◌, ◌++◌, List, [], ◌∷◌, AllPairs, sym, ap, subst, arith, ◌∙◌, cond, get_or, length, refl, take, drop, drop_of_length-le, take_all}
use Rattle.std.proofs.lemmas.List.{append-nil, take-append-drop, take_more}
use Rattle.std.proofs.lemmas.List.Elements.{All-filter}
use Rattle.std.proofs.lemmas.Option.{slice_get_read}
use Rattle.std.specs.Prelude.{nat_eq}
use Rattle.async_window.specs.declared.request.Request.{Request}
use Rattle.async_bound.specs.declared.stream.BurstStream.{BurstStream}
use Rattle.async_bound.specs.Streams.{AreStreams, IsStream}
use Rattle.bounded_runs.specs.declared.of_streams.StrayWhy.{StrayWhy}
use Rattle.bounded_runs.specs.declared.of_streams.Traffic.{Traffic}
use Rattle.bounded_runs.specs.Requests.{AreOfStreams}
use Rattle.bounded_runs.specs.Strays.{FollowsStreams, IsFirstStray, Strays, arrivals_of, streams_of}
use Rattle.bounded_runs.proofs.Belongs.{arrivals-more, arrivals-rise, belongs-front, belongs-more, belongs-nil, strays-not}
use Rattle.bounded_runs.proofs.of_streams.are_of_streams.Goals as goal

-- what is known of an identifier
its-streams : (all : List Traffic) (traffic : Traffic) (at n id : ℕ) (streams : List BurstStream) → traffic ≡ get_or all at traffic → at ≡ n → n ≡ id
    → n ≤ 2031 → ((place : ℕ) (d : Traffic) → place < 2048 → (get_or all place d).streams.items ≡ streams_of streams place)
    → traffic.streams.items ≡ streams_of streams id
its-streams all traffic at n id streams is is_n is_id few each =
    ap (λ t. t.streams.items) is ∙ each at traffic (omega (arith, is_n, few)) ∙ ap (streams_of streams) (is_n ∙ is_id)

its-arrivals : (all : List Traffic) (traffic : Traffic) (at n id : ℕ) (past : List Request) → traffic ≡ get_or all at traffic → at ≡ n → n ≡ id
    → n ≤ 2031 → ((place : ℕ) (d : Traffic) → place < 2048 → (get_or all place d).arrived.items ≡ arrivals_of past place)
    → traffic.arrived.items ≡ arrivals_of past id
its-arrivals all traffic at n id past is is_n is_id few each =
    ap (λ t. t.arrived.items) is ∙ each at traffic (omega (arith, is_n, few)) ∙ ap (arrivals_of past) (is_n ∙ is_id)

-- one request more
with-one : (requests : List Request) (k : ℕ) (r : Request) → k < length requests → r ≡ get_or requests k r
    → take (k + 1) requests ≡ take k requests ++ r ∷ []
with-one requests k r within is = take_more requests k r within ∙ ap (λ z. take k requests ++ z ∷ []) (sym is)

strays-here : (streams : List BurstStream) (requests : List Request) (k : ℕ) (r : Request) (why : StrayWhy) (own : List BurstStream) (arrived : List ℕ)
    → AreStreams streams → k < length requests → r ≡ get_or requests k r → AreOfStreams streams (take k requests)
    → own ≡ streams_of streams r.frame.identifier → arrived ≡ arrivals_of (take k requests) r.frame.identifier → Strays own arrived r why
    → IsFirstStray streams requests k why
strays-here streams requests k r why own arrived known within is before same_own same_arrived strays =
    let here = subst (λ l. Strays (streams_of streams r.frame.identifier) l r why) same_arrived (subst (λ l. Strays l arrived r why) same_own strays) in
    record {
      request = r;
      there = slice_get_read requests (length requests) k r refl within is;
      before = before;
      no_more = λ are. strays-not streams known (take k requests) r why here (subst (AreOfStreams streams) (with-one requests k r within is) are);
      strays = here;
    }

not-all : (streams : List BurstStream) (requests : List Request) (k : ℕ) (why : StrayWhy) → IsFirstStray streams requests k why → AreOfStreams streams requests → ⊥
not-all streams requests k why first are =
    first.no_more (belongs-front streams (take (k + 1) requests) (drop (k + 1) requests)
    (subst (AreOfStreams streams) (sym (take-append-drop (k + 1) requests)) are))

one-more : (streams : List BurstStream) (requests : List Request) (k : ℕ) (r : Request) (own : List BurstStream) (arrived : List ℕ)
    → AreStreams streams → k < length requests → r ≡ get_or requests k r → AreOfStreams streams (take k requests)
    → own ≡ streams_of streams r.frame.identifier → arrived ≡ arrivals_of (take k requests) r.frame.identifier → FollowsStreams own arrived r
    → AreOfStreams streams (take (k + 1) requests)
one-more streams requests k r own arrived known within is before same_own same_arrived follows =
    let here = subst (λ l. FollowsStreams (streams_of streams r.frame.identifier) l r) same_arrived (subst (λ l. FollowsStreams l arrived r) same_own follows) in
    subst (AreOfStreams streams) (sym (with-one requests k r within is)) (belongs-more streams known (take k requests) r before here)

replaced : (len : ℕ) (new old : List Traffic) → len ≡ length old → length new ≡ length old → take len (new ++ drop (length new) old) ≡ new
replaced len new old is same =
    ap (λ l. take len (new ++ l)) (drop_of_length-le old {i = length new} (omega (arith, same))) ∙ ap (take len) (append-nil new) ∙ take_all len new (omega (arith, is, same))

pub loop-place-init : goal.loop-place-init
loop-place-init c = record {
  count = c.in_ok-all.ensures.count;
  streams = c.in_ok-all.ensures.streams;
  arrived = c.in_ok-all.ensures.arrived;
  belong = belongs-nil c.args.streams.now;
}

pub why_stray-requires-clause-known : goal.why_stray-requires-clause-known
why_stray-requires-clause-known c =
    subst AreStreams
    (sym (its-streams c.loop-place.all.items c.index.result.now c.from.result c.id.result c.index-requests-place.result.frame.identifier c.args.streams.now c.index.ensures c.from.ensures c.id.ensures.value
    c.id.ensures.range c.loop-place.invariant.streams))
    (All-filter (λ stream. nat_eq stream.id c.index-requests-place.result.frame.identifier) IsStream c.args.streams.now c.requires.known)

pub why_stray-requires-clause-rising : goal.why_stray-requires-clause-rising
why_stray-requires-clause-rising c =
    subst (AllPairs (λ one other. one ≤ other))
    (sym (its-arrivals c.loop-place.all.items c.index.result.now c.from.result c.id.result c.index-requests-place.result.frame.identifier (take c.loop-place.place c.args.requests.now) c.index.ensures c.from.ensures
    c.id.ensures.value c.id.ensures.range c.loop-place.invariant.arrived))
    (arrivals-rise c.args.streams.now (take c.loop-place.place c.args.requests.now) c.index-requests-place.result.frame.identifier c.loop-place.invariant.belong)

pub loop-place-preserved : goal.loop-place-preserved
loop-place-preserved c =
    let r = c.index-requests-place.result in
    let past = take c.loop-place.place c.args.requests.now in
    let id = r.frame.identifier in
    let traffic = c.index.result.now in
    let old = c.deref_mut.ensures.value in
    let now = c.in_ok-add_arrival-in-None.ensures in
    let long = c.loop-place.all.ok in
    let items = replaced c.loop-place.all.len c.add_arrival.new.all c.loop-place.all.items (omega (arith, long)) (now.count ∙ sym c.loop-place.invariant.count) in
    record {
      count = ap length items ∙ now.count;
      streams = λ place d within. ap (λ l. (get_or l place d).streams.items) items ∙ now.streams place d within ∙ ap (λ l. (get_or l place d).streams.items) old ∙ c.loop-place.invariant.streams place d within;
      arrived = λ place d within.
          ap (λ l. (get_or l place d).arrived.items) items ∙ now.arrived place d within ∙ ap (λ l. (get_or l place d).arrived.items ++ cond (nat_eq id place) (r.at ∷ []) []) old
          ∙ ap (λ l. l ++ cond (nat_eq id place) (r.at ∷ []) []) (c.loop-place.invariant.arrived place d within)
          ∙ sym (ap (λ l. arrivals_of l place) (with-one c.args.requests.now c.loop-place.place r c.loop-place-test.true c.index-requests-place.is) ∙ arrivals-more past r place);
      belong = one-more c.args.streams.now c.args.requests.now c.loop-place.place r traffic.streams.items traffic.arrived.items c.requires.known c.loop-place-test.true c.index-requests-place.is
          c.loop-place.invariant.belong
          (its-streams c.loop-place.all.items traffic c.from.result c.id.result id c.args.streams.now c.index.ensures c.from.ensures c.id.ensures.value c.id.ensures.range c.loop-place.invariant.streams)
          (its-arrivals c.loop-place.all.items traffic c.from.result c.id.result id past c.index.ensures c.from.ensures c.id.ensures.value c.id.ensures.range c.loop-place.invariant.arrived)
          c.in-None.ensures.none;
    }

pub returns-in-Some : goal.returns-in-Some
returns-in-Some c =
    let r = c.index-requests-place.result in
    let past = take c.loop-place.place c.args.requests.now in
    let id = r.frame.identifier in
    let traffic = c.index.result.now in
    let first = strays-here c.args.streams.now c.args.requests.now c.loop-place.place r c.in-Some.why traffic.streams.items traffic.arrived.items c.requires.known c.loop-place-test.true c.index-requests-place.is
    c.loop-place.invariant.belong
    (its-streams c.loop-place.all.items traffic c.from.result c.id.result id c.args.streams.now c.index.ensures c.from.ensures c.id.ensures.value c.id.ensures.range c.loop-place.invariant.streams)
    (its-arrivals c.loop-place.all.items traffic c.from.result c.id.result id past c.index.ensures c.from.ensures c.id.ensures.value c.id.ensures.range c.loop-place.invariant.arrived)
    c.in-Some.ensures.stray in
    record {
      belong = tt;
      fault = first;
      only = λ are. absurd (not-all c.args.streams.now c.args.requests.now c.loop-place.place c.in-Some.why first are);
    }

pub returns-clause-belong : goal.returns-clause-belong
returns-clause-belong c =
    subst (AreOfStreams c.args.streams.now) (take_all c.loop-place.place c.args.requests.now (let past = c.loop-place-test.false in omega arith)) c.loop-place.invariant.belong
