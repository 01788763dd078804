-- What rare disturbances take.
use Rattle.std.proofs.Common.{◌≡◌, ℕ, zero, suc, ◌+◌, ◌-◌, ◌*◌, ◌/◌, ◌^◌, ◌%◌, ◌<◌, ◌≤◌, ◌&&◌, Bool, cond, List, [], ◌∷◌, All, inl, inr, refl, sym, ap, subst, arith, suc-mul, zero-mul, mul-le-mul_right}
use Rattle.std.specs.Prelude.{count_by, nat_le, nat_lt}
use Rattle.std.proofs.Math.Nat.{le-div_iff_mul-le, mod-lt}
use Rattle.std.proofs.lemmas.Bool.{and_from, and_parts, cases_Bool, cases_lt, le-leb, leb-true, lt-ltb, ltb-true}
use Rattle.std.proofs.lemmas.List.Sums.{sum_by-cons}
use Rattle.std.proofs.lemmas.List.Elements.{All-head, All-tail}
use Rattle.std.proofs.lemmas.Nat.{div-add-mod'}
use Rattle.profile.specs.Limits.{least_asynchronous}
use Rattle.stuff_bound.specs.Stuffing.{worst}
use Rattle.async_bound.specs.declared.stream.BurstStream.{BurstStream}
use Rattle.async_bound.specs.Bound.{demand}
use Rattle.async_bound.specs.Streams.{arrivals}
use Rattle.disturbed_runs.specs.Outages.{Outage, lost_in, overlap}
use Rattle.disturbed_bounds.specs.Bounds.{AreRare, fault_stream, fault_streams, longest_outage}

-- how many outages start from one time to below another
abbrev is_started : ℕ → ℕ → Outage → Bool
is_started low high outage = nat_le low outage.start && nat_lt outage.start high

abbrev mark : ℕ → ℕ → Outage → ℕ
mark low high outage = cond (is_started low high outage) 1 0

abbrev starting : ℕ → ℕ → List Outage → ℕ
starting low high outages = count_by (is_started low high) outages

mark-one : (low high : ℕ) (outage : Outage) → low ≤ outage.start → outage.start < high → mark low high outage ≡ 1
mark-one low high outage from before =
    ap (λ b. cond b 1 0) (and_from (nat_le low outage.start) (nat_lt outage.start high) (le-leb low outage.start from) (lt-ltb outage.start high before))

-- what holds where one starts holds of its mark
mark-if : (low high most : ℕ) (outage : Outage) → (low ≤ outage.start → outage.start < high → 1 ≤ most) → mark low high outage ≤ most
mark-if low high most outage one = elim (cases_Bool (is_started low high outage)) [
  | inr none ↦ let zero_ : mark low high outage ≡ 0 = ap (λ b. cond b 1 0) none in omega (arith, zero_)
  | inl is ↦
      let two = and_parts (nat_le low outage.start) (nat_lt outage.start high) is in
      let here : mark low high outage ≡ 1 = ap (λ b. cond b 1 0) is in
      omega (arith, here, one (leb-true low outage.start two.0) (ltb-true outage.start high two.1))
]

-- more times, no fewer of them
more-started : (low high less more : ℕ) (outages : List Outage) → less ≤ low → high ≤ more → starting low high outages ≤ starting less more outages
more-started low high less more [] before behind = omega arith
more-started low high less more (x ∷ xs) before behind =
    let one = mark-if low high (mark less more x) x (λ from until. let is = mark-one less more x (omega (arith, from, before)) (omega (arith, until, behind)) in omega (arith, is)) in
    omega (arith, sum_by-cons (mark low high) x xs, sum_by-cons (mark less more) x xs, one, more-started low high less more xs before behind)

-- in two parts
parts-started : (low mid high : ℕ) (outages : List Outage) → starting low high outages ≤ starting low mid outages + starting mid high outages
parts-started low mid high [] = omega arith
parts-started low mid high (x ∷ xs) =
    let one = mark-if low high (mark low mid x + mark mid high x) x (λ from until. elim (cases_lt x.start mid) [
      | inl early ↦ let is = mark-one low mid x from early in omega (arith, is)
      | inr late ↦ let is = mark-one mid high x late until in omega (arith, is)
    ]) in
    omega (arith, sum_by-cons (mark low high) x xs, sum_by-cons (mark low mid) x xs, sum_by-cons (mark mid high) x xs, one, parts-started low mid high xs)

-- what they take
taken : (low high : ℕ) (outages : List Outage) → All (λ outage. outage.span ≤ 165) outages → lost_in low high outages ≤ starting (low - 165) high outages * 165
taken low high [] short = omega (arith, zero-mul 165)
taken low high (x ∷ xs) short =
    let small = All-head (λ outage. outage.span ≤ 165) x xs short in
    let one : overlap low high x ≤ mark (low - 165) high x * 165 = elim (cases_lt x.start high) [
      | inr late ↦ omega (arith, late)
      | inl early ↦ elim (cases_lt low (x.start + x.span)) [
        | inr over ↦ omega (arith, over)
        | inl on ↦ let is = mark-one (low - 165) high x (omega (arith, on, small)) early in omega (arith, is, small)
      ]
    ] in
    omega (arith, sum_by-cons (overlap low high) x xs, sum_by-cons (mark (low - 165) high) x xs, one, taken low high xs (All-tail (λ outage. outage.span ≤ 165) x xs short))

none-taken : (low : ℕ) (outages : List Outage) → lost_in low (low + 0) outages ≡ 0
none-taken low [] = refl
none-taken low (x ∷ xs) = omega (arith, sum_by-cons (overlap low (low + 0)) x xs, none-taken low xs)

-- none within no time
nothing : (at : ℕ) (xs : List Outage) → starting at at xs ≤ 0
nothing at [] = omega arith
nothing at (x ∷ xs) =
    let one = mark-if at at 0 x (λ from until. absurd (omega (arith, from, until))) in
    omega (arith, sum_by-cons (mark at at) x xs, one, nothing at xs)

module _ (errors gap : ℕ) (outages : List Outage) (rare : AreRare errors gap outages) (long : longest_outage ≤ gap) where
  -- in so many distances in a row
  many : (n low : ℕ) → starting low (low + n * gap) outages ≤ n * errors
  many zero low =
      let empty : starting low (low + zero * gap) outages ≤ starting low low outages = more-started low (low + zero * gap) low low outages (omega arith) (omega (arith, zero-mul gap)) in
      omega (arith, empty, nothing low outages, zero-mul errors)
  many (suc n) low =
      let first = many n low in
      let next = rare.few (low + n * gap) in
      let two = parts-started low (low + n * gap) (low + suc n * gap) outages in
      let same : low + suc n * gap ≡ low + n * gap + gap = omega (arith, suc-mul n gap) in
      let last : starting (low + n * gap) (low + suc n * gap) outages ≤ errors = subst (λ end. starting (low + n * gap) end outages ≤ errors) (sym same) next in
      omega (arith, first, two, last, suc-mul n errors)

  -- the distances that were begun
  abbrev begun_in : ℕ → ℕ
  begun_in span = (span + gap - 1) / gap

  begun-long : (span : ℕ) → span ≤ begun_in span * gap
  begun-long span =
      let split = div-add-mod' (span + gap - 1) gap in
      let rest : (span + gap - 1) % gap < gap = mod-lt (span + gap - 1) (omega (arith, long)) in
      omega (arith, split, rest, long)

  few-within : (low span : ℕ) → starting (low - 165) (low + span) outages ≤ errors + begun_in span * errors
  few-within low span =
      let two = parts-started (low - 165) low (low + span) outages in
      let before = more-started (low - 165) low (low - 165) (low - 165 + gap) outages (omega arith) (omega (arith, long)) in
      let first = rare.few (low - 165) in
      let whole = more-started low (low + span) low (low + begun_in span * gap) outages (omega arith) (let is = begun-long span in omega (arith, is)) in
      let later = many (begun_in span) low in
      omega (arith, two, before, first, whole, later)

  module _ (id low : ℕ) (above : least_asynchronous < id) where
    need_of : ℕ → BurstStream → ℕ
    need_of span stream = cond (nat_lt stream.id id) (arrivals stream span * worst stream.bytes) 0

    abbrev earlier_in : ℕ → ℕ
    earlier_in span = (span + (2 ^ 32 - 1) - 1) / (2 ^ 32 - 1)

    need-one : (span distance : ℕ) → need_of span (fault_stream errors distance) ≡ (span + distance - 1) / distance * (3 * errors) * 55
    unfolding need_of
    need-one span distance = ap (λ b. cond b ((span + distance - 1) / distance * (3 * errors) * 55) 0) (lt-ltb least_asynchronous id above)

    need-is : (span : ℕ) → demand (fault_streams errors gap) id span ≡ begun_in span * (3 * errors) * 55 + earlier_in span * (3 * errors) * 55
    unfolding need_of
    need-is span =
        let two : demand (fault_streams errors gap) id span ≡ need_of span (fault_stream errors gap) + demand (fault_stream errors (2 ^ 32 - 1) ∷ []) id span
        = sum_by-cons (need_of span) (fault_stream errors gap) (fault_stream errors (2 ^ 32 - 1) ∷ []) in
        let one : demand (fault_stream errors (2 ^ 32 - 1) ∷ []) id span ≡ need_of span (fault_stream errors (2 ^ 32 - 1)) + 0
        = sum_by-cons (need_of span) (fault_stream errors (2 ^ 32 - 1)) [] in
        let first = need-one span gap in
        let second = need-one span (2 ^ 32 - 1) in
        omega (arith, two, one, first, second)

    three : (n : ℕ) → n * (3 * errors) ≡ 3 * (n * errors)
    three zero = omega (arith, zero-mul (3 * errors), zero-mul errors)
    three (suc n) = omega (arith, suc-mul n (3 * errors), suc-mul n errors, three n)

    pub little : (span : ℕ) → span < 2 ^ 32 → lost_in low (low + span) outages ≤ demand (fault_streams errors gap) id span
    little zero small = omega (arith, none-taken low outages)
    little (suc span) small =
        let some : 1 ≤ earlier_in (suc span) = (le-div_iff_mul-le (omega arith)).1 (omega arith) in
        let once : 1 * (3 * errors) ≤ earlier_in (suc span) * (3 * errors) = mul-le-mul_right (3 * errors) some in
        let most = taken low (low + suc span) outages rare.short in
        let few = few-within low (suc span) in
        let need = need-is (suc span) in
        omega (arith, most, few, need, three (begun_in (suc span)), once)
