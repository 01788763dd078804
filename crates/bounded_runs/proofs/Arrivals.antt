-- How many requests of an identifier have arrived before a time.
use Rattle.std.proofs.Common.{◌≡◌, ℕ, zero, suc, ◌+◌, ◌-◌, ◌*◌, ◌/◌, ◌<◌, ◌≤◌, cond, List, [], ◌∷◌, All, AllPairs, Contains, Option, Some, inl, inr, refl, sym, ap, ◌∙◌, subst, arith, count_by, drop, slice_get, add-zero, mod-lt, suc-mul, zero-mul}
use Rattle.std.specs.Prelude.{nat_le, nat_lt, ◌&&◌}
use Rattle.std.proofs.lemmas.Bool.{cases_lt, le-leb, le-ltb, lt-leb, lt-ltb}
use Rattle.std.proofs.lemmas.Nat.{div-add-mod'}
use Rattle.std.proofs.lemmas.List.Sums.{sum_by-cons}
use Rattle.std.proofs.lemmas.List.Elements.{All-contains, All-drop, All-head, All-tail, All-weaker}
use Rattle.async_window.specs.declared.request.Request.{Request}
use Rattle.async_bound.specs.declared.stream.BurstStream.{BurstStream}
use Rattle.async_bound.specs.Streams.{AreStreams, IsStream, arrivals}
use Rattle.async_window.specs.Waiting.{requests_of}
use Rattle.bounded_runs.specs.Requests.{AreOfStreams, IsApart, arrive_within}
use Rattle.async_bound.proofs.Shared.{AllPairs-head, AllPairs-tail}

abbrev pub early : ℕ → Request → ℕ
early at request = cond (nat_lt request.at at) 1 0

abbrev pub arrived : ℕ → List Request → ℕ
arrived at requests = count_by (λ request. nat_lt request.at at) requests

arrived-cons : (at : ℕ) (r : Request) (rs : List Request) → arrived at (r ∷ rs) ≡ early at r + arrived at rs
arrived-cons at r rs = sum_by-cons (early at) r rs

pub same-some : (one other : Request) (o : Option Request) → o ≡ Some one → o ≡ Some other → one ≡ other
same-some one other o is also = cc

early-is : (at : ℕ) (r : Request) → r.at < at → early at r ≡ 1
early-is at r before = ap (λ b. cond b 1 0) (lt-ltb r.at at before)

early-not : (at : ℕ) (r : Request) → at ≤ r.at → early at r ≡ 0
early-not at r behind = ap (λ b. cond b 1 0) (le-ltb r.at at behind)

early-one : (at : ℕ) (r : Request) → early at r ≤ 1
early-one at r = elim (cases_lt r.at at) [ inl before ↦ omega (arith, early-is at r before) | inr behind ↦ omega (arith, early-not at r behind) ]

early-more : (at later : ℕ) (r : Request) → at ≤ later → early at r ≤ early later r
early-more at later r order = elim (cases_lt r.at at) [
  | inl before ↦ omega (arith, early-is at r before, early-is later r (omega (arith, before, order)))
  | inr behind ↦ omega (arith, early-not at r behind)
]

pub arrived-le : (at later : ℕ) (rs : List Request) → at ≤ later → arrived at rs ≤ arrived later rs
arrived-le at later [] order = omega arith
arrived-le at later (r ∷ rs) order =
    omega (arith, arrived-cons at r rs, arrived-cons later r rs, early-more at later r order, arrived-le at later rs order)

arrived-none : (at : ℕ) (rs : List Request) → All (λ r. at ≤ r.at) rs → arrived at rs ≡ 0
arrived-none at [] all = refl
arrived-none at (r ∷ rs) all =
    omega (arith, arrived-cons at r rs, early-not at r (All-head (λ x. at ≤ x.at) r rs all), arrived-none at rs (All-tail (λ x. at ≤ x.at) r rs all))

pub arrived-zero : (rs : List Request) → arrived 0 rs ≡ 0
arrived-zero rs = arrived-none 0 rs (λ k d within. omega arith)

pub first-of : (P : Request → Type 0) (xs : List Request) (r : Request) → All P xs → slice_get xs 0 ≡ Some r → P r
first-of P [] r all is = absurd (cc)
first-of P (x ∷ xs) r all is = let same : x ≡ r = cc in subst P same (All-head P x xs all)

abbrev pub Rise : List Request → Type 0
Rise rs = AllPairs (λ one other. one.at ≤ other.at) rs

-- where the request at a place has arrived, so have those before it
pub arrived-least : (at place : ℕ) (rs : List Request) (r : Request) → Rise rs → slice_get (drop place rs) 0 ≡ Some r → r.at < at
    → place + 1 ≤ arrived at rs
arrived-least at zero [] r rise is before = absurd (cc)
arrived-least at (suc place) [] r rise is before = absurd (cc)
arrived-least at zero (x ∷ xs) r rise is before =
    let same : x ≡ r = cc in
    omega (arith, arrived-cons at x xs, early-is at x (subst (λ y. y.at < at) (sym same) before))
arrived-least at (suc place) (x ∷ xs) r rise is before =
    let first = first-of (λ y. x.at ≤ y.at) (drop place xs) r (All-drop (λ y. x.at ≤ y.at) place xs (AllPairs-head (λ one other. one.at ≤ other.at) x xs rise)) is in
    omega (
      arith,
      arrived-cons at x xs,
      early-is at x (omega (arith, first, before)),
      arrived-least at place xs r (AllPairs-tail (λ one other. one.at ≤ other.at) x xs rise) is before,
    )

-- where more have arrived than stand before a place, one stands there that has arrived
pub record Stands (at place : ℕ) (rs : List Request) : Type 0 where
  pub request : Request
  pub is : slice_get (drop place rs) 0 ≡ Some request
  pub before : request.at < at

pub stands : (at place : ℕ) (rs : List Request) → Rise rs → place < arrived at rs → Stands at place rs
stands at place [] rise more = absurd (omega (arith, more))
stands at zero (x ∷ xs) rise more = elim (cases_lt x.at at) [
  | inl before ↦ record { request = x; is = refl; before = before }
  | inr behind ↦
      let later = All-weaker (λ y. x.at ≤ y.at) (λ y. at ≤ y.at) (λ y after. omega (arith, after, behind)) xs (AllPairs-head (λ one other. one.at ≤ other.at) x xs rise) in
      absurd (omega (arith, more, arrived-cons at x xs, early-not at x behind, arrived-none at xs later))
]
stands at (suc place) (x ∷ xs) rise more =
    let rest = stands at place xs (AllPairs-tail (λ one other. one.at ≤ other.at) x xs rise) (omega (arith, more, arrived-cons at x xs, early-one at x)) in
    record { request = rest.request; is = rest.is; before = rest.before }

-- the request at a place, and what is left from there on
pub from-place : (place : ℕ) (rs : List Request) (r : Request) → slice_get rs place ≡ Some r → slice_get (drop place rs) 0 ≡ Some r
from-place zero [] r is = absurd (cc)
from-place (suc place) [] r is = absurd (cc)
from-place zero (x ∷ xs) r is = is
from-place (suc place) (x ∷ xs) r is = from-place place xs r is

pub to-place : (place : ℕ) (rs : List Request) (r : Request) → slice_get (drop place rs) 0 ≡ Some r → slice_get rs place ≡ Some r
to-place zero [] r is = absurd (cc)
to-place (suc place) [] r is = absurd (cc)
to-place zero (x ∷ xs) r is = is
to-place (suc place) (x ∷ xs) r is = to-place place xs r is

-- the request at an earlier place
pub record Earlier (before : ℕ) (rs : List Request) (r : Request) : Type 0 where
  pub request : Request
  pub is : slice_get rs before ≡ Some request
  pub sooner : request.at ≤ r.at

at-of : (rs : List Request) (place : ℕ) (r : Request) (P : Request → Type 0) → All P rs → slice_get rs place ≡ Some r → P r
at-of [] place r P all is = absurd (cc)
at-of (x ∷ xs) zero r P all is = let same : x ≡ r = cc in subst P same (All-head P x xs all)
at-of (x ∷ xs) (suc place) r P all is = at-of xs place r P (All-tail P x xs all) is

pub earlier : (before place : ℕ) (rs : List Request) (r : Request) → Rise rs → slice_get rs place ≡ Some r → before ≤ place → Earlier before rs r
earlier before place [] r rise is order = absurd (cc)
earlier zero zero (x ∷ xs) r rise is order = let same : x ≡ r = cc in record { request = x; is = refl; sooner = subst (λ y. x.at ≤ y.at) same (omega arith) }
earlier zero (suc place) (x ∷ xs) r rise is order =
    record { request = x; is = refl; sooner = at-of xs place r (λ y. x.at ≤ y.at) (AllPairs-head (λ one other. one.at ≤ other.at) x xs rise) is }
earlier (suc before) zero (x ∷ xs) r rise is order = absurd (omega arith)
earlier (suc before) (suc place) (x ∷ xs) r rise is order =
    let rest = earlier before place xs r (AllPairs-tail (λ one other. one.at ≤ other.at) x xs rise) is (omega arith) in
    record { request = rest.request; is = rest.is; sooner = rest.sooner }

-- Requests that are apart

module _ (stream : BurstStream) (rs : List Request) (rise : Rise rs) (apart : IsApart stream rs) where
  -- so many bursts behind a request
  bursts : (n place : ℕ) (one other : Request) → slice_get rs place ≡ Some one → slice_get rs (place + n * stream.burst) ≡ Some other
      → one.at + n * stream.gap ≤ other.at
  bursts zero place one other is also =
      let here : slice_get rs place ≡ Some other = subst (λ k. slice_get rs k ≡ Some other) (ap (λ k. place + k) (zero-mul stream.burst) ∙ add-zero place) also in
      let same : one ≡ other = same-some one other (slice_get rs place) is here in
      let nothing = zero-mul stream.gap in
      subst (λ r. one.at + 0 * stream.gap ≤ r.at) same (omega (arith, nothing))
  bursts (suc n) place one other is also =
      let next : place + suc n * stream.burst ≡ place + n * stream.burst + stream.burst = omega (arith, suc-mul n stream.burst) in
      let here = subst (λ k. slice_get rs k ≡ Some other) next also in
      let before = earlier (place + n * stream.burst) (place + n * stream.burst + stream.burst) rs other rise here (omega arith) in
      let sofar = bursts n place one before.request is before.is in
      let step = apart (place + n * stream.burst) before.request other before.is here in
      omega (arith, sofar, step, suc-mul n stream.gap)

  -- within so many bit times at most so many arrive
  pub few-arrive : (low span : ℕ) → 0 < stream.gap → arrived (low + span) rs ≤ arrived low rs + arrivals stream span
  few-arrive low span some = elim (cases_lt (arrived low rs + arrivals stream span) (arrived (low + span) rs)) [
    | inr few ↦ few
    | inl many ↦
        let p = arrived low rs in
        let n = (span + stream.gap - 1) / stream.gap in
        let last = stands (low + span) (arrived low rs + arrivals stream span) rs rise many in
        let first = stands (low + span) (arrived low rs) rs rise (omega (arith, many)) in
        let late : low ≤ first.request.at = elim (cases_lt first.request.at low) [
          | inl early ↦ let least = arrived-least low (arrived low rs) rs first.request rise first.is early in absurd (omega (arith, least))
          | inr is ↦ is
        ] in
        let far = bursts n (arrived low rs) first.request last.request (to-place (arrived low rs) rs first.request first.is)
        (to-place (arrived low rs + arrivals stream span) rs last.request last.is) in
        let whole = div-add-mod' (span + stream.gap - 1) stream.gap in
        let part = mod-lt (span + stream.gap - 1) some in
        let end = last.before in
        absurd (omega (arith, far, whole, part, end, late))
  ]

-- of them, those that arrive from a time on

abbrev one_within : ℕ → ℕ → Request → ℕ
one_within low high r = cond (nat_le low r.at && nat_lt r.at high) 1 0

within-one : (low high : ℕ) (r : Request) → low ≤ high → one_within low high r + early low r ≡ early high r
within-one low high r order = elim (cases_lt r.at low) [
  | inl before ↦
      let none : one_within low high r ≡ 0 = ap (λ b. cond (b && nat_lt r.at high) 1 0) (lt-leb low r.at before) in
      omega (arith, none, early-is low r before, early-is high r (omega (arith, before, order)))
  | inr behind ↦
      let one : one_within low high r ≡ early high r = ap (λ b. cond (b && nat_lt r.at high) 1 0) (le-leb low r.at behind) in
      omega (arith, one, early-not low r behind)
]

within-arrived : (low high : ℕ) (rs : List Request) → low ≤ high → arrive_within low high rs + arrived low rs ≡ arrived high rs
within-arrived low high [] order = refl
within-arrived low high (r ∷ rs) order =
    omega (
      arith,
      sum_by-cons (one_within low high) r rs,
      arrived-cons low r rs,
      arrived-cons high r rs,
      within-one low high r order,
      within-arrived low high rs order,
    )

pub few-within : (streams : List BurstStream) (requests : List Request) (stream : BurstStream) (low span : ℕ) → AreStreams streams → AreOfStreams streams requests
    → Contains streams stream → arrive_within low (low + span) (requests_of requests stream.id) ≤ arrivals stream span
few-within streams requests stream low span are of has =
    let rs = requests_of requests stream.id in
    let rise = All-contains (λ s. Rise (requests_of requests s.id)) streams stream of.in_order has in
    let apart = All-contains (λ s. IsApart s (requests_of requests s.id)) streams stream of.apart has in
    let few = few-arrive stream rs rise apart low span (All-contains IsStream streams stream are has).distinct in
    let both = within-arrived low (low + span) rs (omega arith) in
    omega (arith, few, both)
