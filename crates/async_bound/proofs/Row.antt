-- The least row of times with so many usable ones, and sums that grow with it.
use Rattle.std.proofs.Common.{◌≡◌, ℕ, ◌+◌, ◌-◌, ◌*◌, ◌/◌, ◌%◌, ◌<◌, ◌≤◌, Bool, true, false, cond, List, Contains, inl, inr, sym, ap, subst, arith, add-mul, mul-le-mul_right, mul-le-mul_left}
use Rattle.std.specs.Prelude.{nat_lt}
use Rattle.std.proofs.lemmas.Bool.{cases_lt}
use Rattle.std.proofs.lemmas.Nat.{div-add-mod', mod_below, le-div}
use Rattle.std.proofs.lemmas.List.Elements.{All-contains}
use Rattle.profile.specs.Limits.{greatest_identifier}
use Rattle.stuff_bound.specs.Stuffing.{worst}
use Rattle.cycle_layout.specs.Layout.{CycleLayout, IsLayout}
use Rattle.async_bound.specs.declared.stream.BurstStream.{BurstStream}
use Rattle.async_bound.specs.Room.{count_below, is_usable, room_in}
use Rattle.async_bound.specs.Streams.{AreStreams, IsStream, arrivals}
use Rattle.async_bound.specs.Bound.{IsBound, IsLeastFitting, blocking, demand, longest_up_to}
use Rattle.async_bound.proofs.Longest.{longest-most}
use Rattle.async_bound.proofs.Room.{room-least}
use Rattle.async_bound.proofs.Sums.{sum-le}

module _ (period all : ℕ) (some : 0 < period) (few : all ≤ period) where
  abbrev row : ℕ → ℕ
  row span = span / period * all + (span % period + all - period)

  abbrev least : ℕ → ℕ
  least need = (need - 1) / all * period + (period - all) + (need - 1) % all + 1

  times : (q k all : ℕ) → q < k → q * all + all ≤ k * all
  times q k all less =
      let more : (q + 1) * all ≤ k * all = mul-le-mul_right all (omega arith) in
      omega (arith, more, add-mul q 1 all)

  pub row-enough : (need span : ℕ) → 0 < all → 0 < need → least need ≤ span → need ≤ row span
  row-enough need span room one long =
      let split = div-add-mod' span period in
      let part = mod_below span period some in
      let needs = div-add-mod' (need - 1) all in
      let rest = mod_below (need - 1) all room in
      elim (cases_lt ((need - 1) / all) (span / period)) [
        | inl less ↦ let more = times ((need - 1) / all) (span / period) all less in omega (arith, more, needs, rest, one)
        | inr most ↦
            let high : (need - 1) / all ≤ span / period = le-div ((need - 1) / all) span period some (omega (arith, long)) in
            let same : span / period ≡ (need - 1) / all = omega (arith, most, high) in
            let product : span / period * all ≡ (need - 1) / all * all = ap (λ n. n * all) same in
            let also : span / period * period ≡ (need - 1) / all * period = ap (λ n. n * period) same in
            omega (arith, split, needs, product, also, long, few, one)
      ]

  pub row-short : (need span : ℕ) → 0 < all → 0 < need → span < least need → row span < need
  row-short need span room one short =
      let split = div-add-mod' span period in
      let part = mod_below span period some in
      let needs = div-add-mod' (need - 1) all in
      let rest = mod_below (need - 1) all room in
      elim (cases_lt (span / period) ((need - 1) / all)) [
        | inl less ↦ let more = times (span / period) ((need - 1) / all) all less in omega (arith, more, needs, part, room, one)
        | inr most ↦ elim (cases_lt ((need - 1) / all) (span / period)) [
          | inl more ↦ let too_long = times ((need - 1) / all) (span / period) period more in absurd (omega (arith, too_long, split, short, rest, few))
          | inr also ↦
              let same : span / period ≡ (need - 1) / all = omega (arith, most, also) in
              let product : span / period * all ≡ (need - 1) / all * all = ap (λ n. n * all) same in
              let turned : span / period * period ≡ (need - 1) / all * period = ap (λ n. n * period) same in
              omega (arith, split, needs, product, turned, short, few, one, part, rest)
        ]
      ]

  pub row-most : (span : ℕ) → row span ≤ span
  row-most span =
      let split = div-add-mod' span period in
      let less : span / period * all ≤ span / period * period = mul-le-mul_left (span / period) few in
      omega (arith, split, less, few)

-- what is needed grows with the time
arrivals-more : (stream : BurstStream) (span longer : ℕ) → 0 < stream.gap → span ≤ longer → arrivals stream span ≤ arrivals stream longer
arrivals-more stream span longer some order =
    let whole = div-add-mod' (span + stream.gap - 1) stream.gap in
    mul-le-mul_right stream.burst (le-div ((span + stream.gap - 1) / stream.gap) (longer + stream.gap - 1) stream.gap some (omega (arith, whole, order)))

need-if : (b : Bool) (few many width : ℕ) → few ≤ many → cond b (few * width) 0 ≤ cond b (many * width) 0
need-if true few many width less = mul-le-mul_right width less
need-if false few many width less = omega arith

pub demand-more : (streams : List BurstStream) (id span longer : ℕ) → AreStreams streams → span ≤ longer
    → demand streams id span ≤ demand streams id longer
demand-more streams id span longer are order =
    sum-le (λ s. cond (nat_lt s.id id) (arrivals s span * worst s.bytes) 0) (λ s. cond (nat_lt s.id id) (arrivals s longer * worst s.bytes) 0) streams
    (λ s has. need-if (nat_lt s.id id) (arrivals s span) (arrivals s longer) (worst s.bytes)
    (arrivals-more s span longer (All-contains IsStream streams s are has).distinct order))

-- what fits is a bound
module _ (layout : CycleLayout) (known : IsLayout layout) (streams : List BurstStream) (are : AreStreams streams) (stream : BurstStream) (has : Contains streams stream) (span : ℕ) where
  pub bound-fits : IsLeastFitting layout streams stream span → IsBound layout streams stream (longest_up_to streams stream.id) (blocking streams) span
  bound-fits fitting =
      let fits = fitting.fits in
      let longest = longest_up_to streams stream.id in
      let long : blocking streams ≤ span = elim (cases_lt span (blocking streams)) [
        | inl short ↦
            let none : span - blocking streams ≡ 0 = omega (arith, short) in
            let nothing = room-least layout (longest_up_to streams stream.id) known 0 0 in
            let empty : room_in layout (longest_up_to streams stream.id) (span - blocking streams) ≤ 0
            = subst (λ n. room_in layout (longest_up_to streams stream.id) n ≤ 0) (sym none) (omega (arith, nothing)) in
            absurd (omega (arith, empty, fits))
        | inr enough ↦ enough
      ] in
      record {
        among = has;
        short = longest-most streams stream.id;
        blocking = λ k d within.
            let all = longest-most streams greatest_identifier k d within (are k d within).standard in
            omega (arith, all);
        within = fitting.within;
        room = λ low.
            let least_ = room-least layout (longest_up_to streams stream.id) known (low + blocking streams) (span - blocking streams) in
            let place : low + blocking streams + (span - blocking streams) ≡ low + span = omega (arith, long) in
            let moved = subst (λ n. count_below (is_usable layout (longest_up_to streams stream.id)) (low + blocking streams) + room_in layout (longest_up_to streams stream.id) (span - blocking streams)
            ≤ count_below (is_usable layout (longest_up_to streams stream.id)) n) place least_ in
            omega (arith, moved, fits);
      }
