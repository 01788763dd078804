-- How many times in a row of so many are usable at least, wherever the row begins.
use Rattle.std.proofs.Common.{◌≡◌, ℕ, zero, suc, ◌+◌, ◌-◌, ◌*◌, ◌/◌, ◌%◌, ◌<◌, ◌≤◌, min, Bool, true, false, cond, inl, inr, sym, ap, ◌∙◌, subst, arith, add-zero, add-suc, suc-mul, zero-mul, mod-eq_of_lt, zero-add}
use Rattle.std.specs.Prelude.{nat_le, ◌&&◌}
use Rattle.std.proofs.Math.Nat.{add-mod_right}
use Rattle.std.proofs.lemmas.Bool.{and_from, and_left, and_right, cases_lt, le-leb, lt-leb}
use Rattle.std.proofs.lemmas.Nat.{div-add-mod', mod_below}
use Rattle.cycle_layout.specs.Layout.{CycleLayout, IsLayout, trigger_part}
use Rattle.async_bound.specs.Room.{count_below, is_usable}
use Rattle.async_bound.specs.Room.{room_of_cycle, room_in}

abbrev as_one : Bool → ℕ
as_one b = cond b 1 0

one-most : (b : Bool) → cond b 1 0 ≤ 1
one-most true = omega arith
one-most false = omega arith

module _ (test : ℕ → Bool) where
  count-up : (low k : ℕ) → count_below test (low + k) ≤ count_below test low + k
  count-up low zero = rw (add-zero low) (omega arith)
  count-up low (suc k) = rw (add-suc low k) (omega (arith, count-up low k, one-most (test (low + k))))

  module _ (period all : ℕ) (same : (at : ℕ) → test (at + period) ≡ test at) (whole : count_below test period ≡ all) where
    one-period : (low : ℕ) → count_below test (low + period) ≡ count_below test low + all
    one-period zero = ap (λ n. count_below test n) (zero-add period) ∙ whole ∙ sym (zero-add all)
    one-period (suc low) =
        let before = one-period low in
        let one : as_one (test (low + period)) ≡ as_one (test low) = ap as_one (same low) in
        let place : suc low + period ≡ suc (low + period) = omega arith in
        let next : count_below test (suc low + period) ≡ count_below test (suc (low + period)) = ap (λ n. count_below test n) place in
        omega (arith, before, one, next)

    periods : (low n : ℕ) → count_below test (low + n * period) ≡ count_below test low + n * all
    periods low zero = ap (λ n. count_below test n) (ap (λ z. low + z) (zero-mul period) ∙ add-zero low) ∙ sym (ap (λ z. count_below test low + z) (zero-mul all) ∙ add-zero (count_below test low))
    periods low (suc n) =
        let before = periods low n in
        let more = one-period (low + n * period) in
        let place : low + suc n * period ≡ low + n * period + period = omega (arith, suc-mul n period) in
        let at : count_below test (low + suc n * period) ≡ count_below test (low + n * period + period) = ap (λ z. count_below test z) place in
        let product = suc-mul n all in
        omega (arith, before, more, at, product)

    pub least-room : (low span : ℕ) → 0 < period → count_below test low + (span / period * all + (span % period + all - period)) ≤ count_below test (low + span)
    least-room low span some =
        let split = div-add-mod' span period in
        let part = mod_below span period some in
        let front = periods low (span / period) in
        let more = one-period (low + span / period * period) in
        let up = count-up (low + span / period * period + span % period) (period - span % period) in
        let end : low + span / period * period + span % period + (period - span % period) ≡ low + span / period * period + period = omega (arith, part) in
        let up_is : count_below test (low + span / period * period + period) ≤ count_below test (low + span / period * period + span % period) + (period - span % period)
        = subst (λ z. count_below test z ≤ count_below test (low + span / period * period + span % period) + (period - span % period)) end up in
        let place : low + span ≡ low + span / period * period + span % period = omega (arith, split) in
        let here : count_below test (low + span) ≡ count_below test (low + span / period * period + span % period) = ap (λ z. count_below test z) place in
        let on = count-on (low + span / period * period) (span % period) in
        omega (arith, front, more, up_is, here, part, on)
      where
        count-on : (at k : ℕ) → count_below test at ≤ count_below test (at + k)
        count-on at zero = rw (add-zero at) (omega arith)
        count-on at (suc k) = rw (add-suc at k) (let sofar = count-on at k in omega (arith, sofar))

-- in one cycle

module _ (layout : CycleLayout) (longest : ℕ) (known : IsLayout layout) where
  usable-again : (at : ℕ) → is_usable layout longest (at + layout.cycle) ≡ is_usable layout longest at
  usable-again at = ap (λ m. nat_le (trigger_part layout + layout.turnaround) m && nat_le (m + longest + layout.window) layout.cycle) (add-mod_right at layout.cycle)

  abbrev opens : ℕ
  opens = trigger_part layout + layout.turnaround

  up-to : (at : ℕ) → at ≤ layout.cycle → count_below (is_usable layout longest) at ≡ min (at - opens) (room_of_cycle layout longest)
  up-to zero within = omega arith
  up-to (suc at) within =
      let before = up-to at (omega arith) in
      let least = known.window_range.above in
      let place : at % layout.cycle ≡ at = mod-eq_of_lt (omega arith) in
      let is : is_usable layout longest at ≡ (nat_le opens at && nat_le (at + longest + layout.window) layout.cycle)
      = ap (λ m. nat_le opens m && nat_le (m + longest + layout.window) layout.cycle) place in
      elim (cases_lt at opens) [
        | inl early ↦
            let none = ap as_one (is ∙ and_left (nat_le opens at) (nat_le (at + longest + layout.window) layout.cycle) (lt-leb opens at early)) in
            omega (arith, before, none, early)
        | inr open_ ↦ elim (cases_lt layout.cycle (at + longest + layout.window)) [
          | inl late ↦
              let none = ap as_one (is ∙ and_right (nat_le opens at) (nat_le (at + longest + layout.window) layout.cycle) (lt-leb (at + longest + layout.window) layout.cycle late)) in
              omega (arith, before, none, open_, late)
          | inr fits ↦
              let one = ap as_one (is ∙ and_from (nat_le opens at) (nat_le (at + longest + layout.window) layout.cycle) (le-leb opens at open_) (le-leb (at + longest + layout.window) layout.cycle fits)) in
              omega (arith, before, one, open_, fits)
        ]
      ]

  pub room-least : (low span : ℕ) → count_below (is_usable layout longest) low + room_in layout longest span ≤ count_below (is_usable layout longest) (low + span)
  room-least low span =
      let range = known.cycle_range.above in
      let least = known.window_range.above in
      let all : count_below (is_usable layout longest) layout.cycle ≡ room_of_cycle layout longest = up-to layout.cycle (omega arith) ∙ omega (arith, least) in
      least-room (is_usable layout longest) layout.cycle (room_of_cycle layout longest) usable-again all low span (omega arith)
