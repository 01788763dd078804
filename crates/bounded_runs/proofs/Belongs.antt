-- When requests belong to streams, with one more request and with fewer. Times are bit times.
use Rattle.std.proofs.Common.{◌≡◌, ℕ, ◌+◌, ◌<◌, ◌≤◌, Bool, true, false, cond, List, [], ◌∷◌, ◌++◌, All, AllPairs, Contains, Some, map, length, get_or, slice_get, inl, inr, refl, sym, ap, ◌∙◌, subst, arith, length-append}
use Rattle.std.specs.Prelude.{nat_eq, option_map}
use Rattle.std.proofs.Math.Seq.{take-append_seam}
use Rattle.std.proofs.lemmas.Bool.{cases_eq, cases_lt, eq-eqb, eqb-true, ne_eqb}
use Rattle.std.proofs.lemmas.List.{append-nil, get_or_append_left, get_or_push, length-map, map-append}
use Rattle.std.proofs.lemmas.List.Elements.{All-contains, All-push, All-take, All-nil, Contains-get_or, Contains-push, filter-append}
use Rattle.std.proofs.lemmas.List.Quantifiers.{all_pairs_push}
use Rattle.std.proofs.lemmas.Option.{get_or_from_slice_get, slice_get-get_or, slice_get-map, slice_get_within}
use Rattle.async_window.specs.declared.request.Request.{Request}
use Rattle.async_window.specs.Waiting.{requests_of}
use Rattle.async_bound.specs.declared.stream.BurstStream.{BurstStream}
use Rattle.async_bound.specs.Streams.{AreStreams, IsStream}
use Rattle.bounded_runs.specs.Requests.{AreOfStreams, IsApart, IsOfStream}
use Rattle.bounded_runs.specs.Strays.{Allows, FollowsStreams, IsCloseTo, Strays, arrivals_of, streams_of}
use Rattle.bounded_runs.specs.declared.of_streams.StrayWhy.{StrayWhy}
use Rattle.bounded_runs.specs.declared.of_streams.StrayWhy.TheVariants.{Unknown, Long, Early, Close}
use Rattle.async_bound.proofs.Shared.{Contains-any, Contains-filter, Contains-nil}
use Rattle.bounded_runs.proofs.Kept.{AllPairs-front, Contains-place, get-front, get-last, kept-of, kept-passes}

abbrev pub at_of : Request → ℕ
at_of request = request.at

abbrev pub NoLater : Request → Request → Type 0
NoLater one other = one.at ≤ other.at

-- Arrivals and places

at-arrival : (rs : List Request) (i d : ℕ) (one : Request) → slice_get rs i ≡ Some one → get_or (map at_of rs) i d ≡ one.at
at-arrival rs i d one is =
    get_or_from_slice_get (map at_of rs) i one.at d (slice_get-map at_of rs i ∙ ap (option_map at_of) is)

arrival-within : (rs : List Request) (i : ℕ) (d : Request) → i < length rs → get_or (map at_of rs) i 0 ≡ (get_or rs i d).at
arrival-within rs i d within = at-arrival rs i 0 (get_or rs i d) (slice_get-get_or rs i d within)

-- a request is put behind those that are apart

module _ (stream : BurstStream) (known : IsStream stream) (rs : List Request) (r : Request) where
  pub apart-push : IsApart stream rs → (IsCloseTo (map at_of rs) r.at stream → ⊥) → IsApart stream (rs ++ r ∷ [])
  apart-push apart far place one other is also =
      let some = known.some in
      let long = length-append rs (r ∷ []) in
      let within = slice_get_within (rs ++ r ∷ []) (place + stream.burst) other also in
      elim (cases_lt (place + stream.burst) (length rs)) [
        | inl inside ↦
            apart place one other (sym (get-front rs (r ∷ []) place (omega (arith, inside))) ∙ is)
            (sym (get-front rs (r ∷ []) (place + stream.burst) inside) ∙ also)
        | inr behind ↦
            let last : place + stream.burst ≡ length rs = omega (arith, behind, within, long) in
            let it : Some r ≡ Some other = sym (get-last rs r (place + stream.burst) last) ∙ also in
            let same : r ≡ other = cc in
            let there = sym (get-front rs (r ∷ []) place (omega (arith, last, some))) ∙ is in
            elim (cases_lt r.at (one.at + stream.gap)) [
              | inl near ↦
                  absurd
                  (far
                  (record {
                    place = place;
                    before = one.at;
                    there = slice_get-map at_of rs place ∙ ap (option_map at_of) there;
                    a_burst_on = omega (arith, last, length-map rs at_of);
                    near = near;
                  }))
              | inr apart_ ↦ subst (λ z. one.at + stream.gap ≤ z.at) same apart_
            ]
      ]

  -- what is too close is not apart
  pub close-not : IsCloseTo (map at_of rs) r.at stream → IsApart stream (rs ++ r ∷ []) → ⊥
  close-not close apart =
      let some = known.some in
      let count = length-map rs at_of in
      let end = close.a_burst_on in
      let inside : close.place < length rs = omega (arith, count, end, some) in
      let one = get_or rs close.place r in
      let there = slice_get-get_or rs close.place r inside in
      let before = sym (get_or_from_slice_get (map at_of rs) close.place close.before 0 close.there) ∙ at-arrival rs close.place 0 one there in
      let far = apart close.place one r (get-front rs (r ∷ []) close.place inside ∙ there)
      (get-last rs r (close.place + stream.burst) (omega (arith, count, end))) in
      omega (arith, close.near, before, far)

-- The requests of an identifier, with one more

module _ (past : List Request) (r : Request) (id : ℕ) where
  of-more : requests_of (past ++ r ∷ []) id ≡ requests_of past id ++ requests_of (r ∷ []) id
  of-more = filter-append (λ request. nat_eq request.frame.identifier id) past (r ∷ [])

  pub of-own : r.frame.identifier ≡ id → requests_of (past ++ r ∷ []) id ≡ requests_of past id ++ r ∷ []
  of-own same = of-more ∙ ap (λ b. requests_of past id ++ cond b (r ∷ []) []) (eq-eqb r.frame.identifier id same)

  pub of-other : (r.frame.identifier ≡ id → ⊥) → requests_of (past ++ r ∷ []) id ≡ requests_of past id
  of-other other =
      of-more ∙ ap (λ b. requests_of past id ++ cond b (r ∷ []) []) (ne_eqb r.frame.identifier id other) ∙ append-nil (requests_of past id)

-- Streams of an identifier

module _ (streams : List BurstStream) (id : ℕ) where
  pub own-among : (s : BurstStream) → Contains (streams_of streams id) s → Contains streams s
  own-among s has = kept-of (λ stream. nat_eq stream.id id) streams s has

  pub own-id : (s : BurstStream) → Contains (streams_of streams id) s → s.id ≡ id
  own-id s has = eqb-true s.id id (kept-passes (λ stream. nat_eq stream.id id) streams s has)

  pub is-own : (s : BurstStream) → Contains streams s → s.id ≡ id → Contains (streams_of streams id) s
  is-own s has same = Contains-filter (λ stream. nat_eq stream.id id) streams s has (eq-eqb s.id id same)

-- The arrivals of each identifier do not fall

nothing : Request
nothing = record { at = 0; frame = record { identifier = 0; bytes = [] } }

pub arrivals-rise : (streams : List BurstStream) (past : List Request) (id : ℕ) → AreOfStreams streams past
    → AllPairs (λ one other. one ≤ other) (arrivals_of past id)
arrivals-rise streams past id are i j d before within =
    let rs = requests_of past id in
    let count = length-map rs at_of in
    let inside : i < length rs = omega (arith, count, before, within) in
    let behind : j < length rs = omega (arith, count, within) in
    let one = get_or rs i nothing in
    let has = Contains-get_or rs i nothing inside in
    let is_id = eqb-true one.frame.identifier id (kept-passes (λ request. nat_eq request.frame.identifier id) past one has) in
    let its = All-contains (IsOfStream streams) past one are.known (kept-of (λ request. nat_eq request.frame.identifier id) past one has) in
    let order = All-contains (λ s. AllPairs NoLater (requests_of past s.id)) streams its.stream are.in_order its.among in
    let pairs = subst (λ n. AllPairs NoLater (requests_of past n)) (sym its.same ∙ is_id) order in
    let both = pairs i j nothing before behind in
    omega (arith, both, at-arrival rs i d one (slice_get-get_or rs i nothing inside), at-arrival rs j d (get_or rs j nothing) (slice_get-get_or rs j nothing behind))

if-arrives : (b : Bool) (r : Request) → map at_of (cond b (r ∷ []) []) ≡ cond b (r.at ∷ []) []
if-arrives true r = refl
if-arrives false r = refl

pub arrivals-more : (past : List Request) (r : Request) (id : ℕ)
    → arrivals_of (past ++ r ∷ []) id ≡ arrivals_of past id ++ cond (nat_eq r.frame.identifier id) (r.at ∷ []) []
arrivals-more past r id =
    ap (map at_of) (of-more past r id) ∙ map-append at_of (requests_of past id) (requests_of (r ∷ []) id)
    ∙ ap (λ l. arrivals_of past id ++ l) (if-arrives (nat_eq r.frame.identifier id) r)

-- One more request

module _ (streams : List BurstStream) (known : AreStreams streams) (past : List Request) (r : Request) where
  allowed : Allows (streams_of streams r.frame.identifier) (length r.frame.bytes) → IsOfStream streams r
  allowed some =
      let it = Contains-any (λ s. length r.frame.bytes ≤ s.bytes) (streams_of streams r.frame.identifier) some in
      record {
        stream = it.0;
        among = own-among streams r.frame.identifier it.0 it.1;
        same = sym (own-id streams r.frame.identifier it.0 it.1);
        short = it.2;
      }

  rises : (id : ℕ) → All (λ before. before ≤ r.at) (arrivals_of past r.frame.identifier) → r.frame.identifier ≡ id
      → AllPairs NoLater (requests_of past id) → AllPairs NoLater (requests_of past id ++ r ∷ [])
  rises id behind same sofar =
      let all = subst (λ n. All (λ before. before ≤ r.at) (arrivals_of past n)) same behind in
      all_pairs_push NoLater (requests_of past id) r sofar
      (λ k d within. let here = all k 0 (omega (arith, length-map (requests_of past id) at_of, within)) in
      omega (arith, here, arrival-within (requests_of past id) k d within))

  -- a request that follows belongs to the streams too
  pub belongs-more : AreOfStreams streams past → FollowsStreams (streams_of streams r.frame.identifier) (arrivals_of past r.frame.identifier) r
      → AreOfStreams streams (past ++ r ∷ [])
  belongs-more sofar follows = record {
    known = All-push (IsOfStream streams) past r sofar.known (allowed follows.allowed);
    in_order = λ k d within. let s = get_or streams k d in
        elim (cases_eq r.frame.identifier s.id) [
          | inl same ↦ subst (AllPairs NoLater) (sym (of-own past r s.id same)) (rises s.id follows.behind same (sofar.in_order k d within))
          | inr other ↦ subst (AllPairs NoLater) (sym (of-other past r s.id other)) (sofar.in_order k d within)
        ];
    apart = λ k d within. let s = get_or streams k d in
        elim (cases_eq r.frame.identifier s.id) [
          | inl same ↦
              let far = All-contains (λ t. IsCloseTo (arrivals_of past r.frame.identifier) r.at t → ⊥) (streams_of streams r.frame.identifier) s follows.apart
              (is-own streams r.frame.identifier s (Contains-get_or streams k d within) (sym same)) in
              subst (IsApart s) (sym (of-own past r s.id same))
              (apart-push s (known k d within) (requests_of past s.id) r (sofar.apart k d within)
              (subst (λ n. IsCloseTo (arrivals_of past n) r.at s → ⊥) same far))
          | inr other ↦ subst (IsApart s) (sym (of-other past r s.id other)) (sofar.apart k d within)
        ];
  }

  last-of : AreOfStreams streams (past ++ r ∷ []) → IsOfStream streams r
  last-of are = All-contains (IsOfStream streams) (past ++ r ∷ []) r are.known (Contains-push past r)

  -- and one that strays does not
  pub strays-not : (why : StrayWhy) → Strays (streams_of streams r.frame.identifier) (arrivals_of past r.frame.identifier) r why
      → AreOfStreams streams (past ++ r ∷ []) → ⊥
  strays-not Unknown none are =
      let its = last-of are in
      Contains-nil its.stream (subst (λ l. Contains l its.stream) none (is-own streams r.frame.identifier its.stream its.among (sym its.same)))
  strays-not (Long first) long are =
      let its = last-of are in
      let short = All-contains (λ s. s.bytes < length r.frame.bytes) (streams_of streams r.frame.identifier) its.stream long.1
      (is-own streams r.frame.identifier its.stream its.among (sym its.same)) in
      omega (arith, short, its.short)
  strays-not (Early first) early are =
      let its = last-of are in
      let id = r.frame.identifier in
      let rs = requests_of past id in
      let it = Contains-any (λ before. r.at < before) (arrivals_of past id) early.2 in
      let order = subst (λ n. AllPairs NoLater (requests_of (past ++ r ∷ []) n)) (sym its.same)
      (All-contains (λ s. AllPairs NoLater (requests_of (past ++ r ∷ []) s.id)) streams its.stream are.in_order its.among) in
      let pairs = subst (AllPairs NoLater) (of-own past r id refl) order in
      let place = it.1.0 in
      let count = length-map rs at_of in
      let inside : place < length rs = omega (arith, count, it.1.1) in
      let one = get_or rs place r in
      let both = pairs place (length rs) r inside (omega (arith, length-append rs (r ∷ []))) in
      let last = subst (λ z. NoLater (get_or (rs ++ r ∷ []) place r) z) (get_or_push rs r r (length rs) refl) both in
      let front = subst (λ z. NoLater z r) (get_or_append_left rs (r ∷ []) r place inside) last in
      let earlier = it.2 in
      let its_time = sym it.1.2 ∙ at-arrival rs place it.0 one (slice_get-get_or rs place r inside) in
      omega (arith, front, earlier, its_time)
  strays-not (Close s) close are =
      let id = r.frame.identifier in
      let first = close.2 in
      let has = Contains-place (streams_of streams id) first.place s first.there in
      let same = own-id streams id s has in
      let among = own-among streams id s has in
      let apart = subst (λ n. IsApart s (requests_of (past ++ r ∷ []) n)) same
      (All-contains (λ t. IsApart t (requests_of (past ++ r ∷ []) t.id)) streams s are.apart among) in
      close-not s (All-contains IsStream streams s known among) (requests_of past id) r first.close (subst (IsApart s) (of-own past r id refl) apart)

-- Fewer requests

module _ (streams : List BurstStream) (front rest : List Request) where
  of-front : (id : ℕ) → requests_of (front ++ rest) id ≡ requests_of front id ++ requests_of rest id
  of-front id = filter-append (λ request. nat_eq request.frame.identifier id) front rest

  pub belongs-front : AreOfStreams streams (front ++ rest) → AreOfStreams streams front
  belongs-front are = record {
    known = subst (All (IsOfStream streams)) (take-append_seam front rest) (All-take (IsOfStream streams) (length front) (front ++ rest) are.known);
    in_order = λ k d within. let s = get_or streams k d in
        AllPairs-front NoLater (requests_of front s.id) (requests_of rest s.id) (subst (AllPairs NoLater) (of-front s.id) (are.in_order k d within));
    apart = λ k d within. let s = get_or streams k d in
        λ place one other is also.
        subst (IsApart s) (of-front s.id) (are.apart k d within) place one other
        (get-front (requests_of front s.id) (requests_of rest s.id) place (slice_get_within (requests_of front s.id) place one is) ∙ is)
        (get-front (requests_of front s.id) (requests_of rest s.id) (place + s.burst) (slice_get_within (requests_of front s.id) (place + s.burst) other also) ∙ also);
  }

-- No request

pub belongs-nil : (streams : List BurstStream) → AreOfStreams streams []
belongs-nil streams = record {
  known = All-nil (IsOfStream streams);
  in_order = λ k d within i j e before inside. absurd (omega arith);
  apart = λ k d within place one other is also. absurd (cc);
}
