-- Times that are usable and not lost.
use Rattle.std.proofs.Common.{◌≡◌, ℕ, zero, suc, ◌+◌, ◌-◌, ◌<◌, ◌≤◌, ◌&&◌, Bool, true, false, cond, List, [], ◌∷◌, Contains, inl, inr, refl, sym, ap, ◌∙◌, subst, arith, add-zero, add-suc}
use Rattle.std.specs.Prelude.{nat_le, nat_lt}
use Rattle.std.proofs.lemmas.Bool.{and_from, and_parts, cases_Bool, false≢true, le-leb, leb-true, lt-ltb, ltb-true}
use Rattle.std.proofs.lemmas.List.Sums.{sum_by-cons}
use Rattle.async_bound.specs.Room.{count_below}
use Rattle.async_bound.proofs.Shared.{Contains-cases, Contains-here, Contains-later, Contains-nil}
use Rattle.disturbed_runs.specs.Outages.{Outage, end_of_outage, lost_in, overlap}
use Rattle.disturbed_runs.proofs.Shared.{any_outage, outage_span, outage_start, parts-more, parts-one}

abbrev covers : ℕ → Outage → Bool
covers at outage = nat_le outage.start at && nat_lt at (end_of_outage outage)

-- no outage covers the time
abbrev pub is_free : List Outage → ℕ → Bool
is_free [] at = true
is_free (outage ∷ later) at = cond (covers at outage) false (is_free later at)

-- one does
pub record IsLost (outages : List Outage) (at : ℕ) : Type 0 where
  pub it : Outage
  pub among : Contains outages it
  pub from : it.start ≤ at
  pub before : at < end_of_outage it

pub lost-there : (outages : List Outage) (at : ℕ) → is_free outages at ≡ false → IsLost outages at
lost-there [] at is = absurd (cc)
lost-there (outage ∷ later) at is = elim (cases_Bool (covers at outage)) [
  | inl here ↦
      let two = and_parts (nat_le outage.start at) (nat_lt at (end_of_outage outage)) here in
      record { it = outage; among = Contains-here outage later; from = leb-true outage.start at two.0; before = ltb-true at (end_of_outage outage) two.1 }
  | inr none ↦
      let behind = lost-there later at (sym (ap (λ b. cond b false (is_free later at)) none) ∙ is) in
      record { it = behind.it; among = Contains-later outage later behind.it behind.among; from = behind.from; before = behind.before }
]

pub free-clear : (outages : List Outage) (at : ℕ) (x : Outage) → is_free outages at ≡ true → Contains outages x → x.start ≤ at → at < end_of_outage x → ⊥
free-clear [] at x is has from before = Contains-nil x has
free-clear (outage ∷ later) at x is has from before = elim (Contains-cases outage later x has) [
  | inl same ↦
      let here : covers at x ≡ true = and_from (nat_le x.start at) (nat_lt at (end_of_outage x)) (le-leb x.start at from) (lt-ltb at (end_of_outage x) before) in
      let also : covers at outage ≡ true = ap (λ y. covers at y) same ∙ here in
      false≢true (sym (ap (λ b. cond b false (is_free later at)) also) ∙ is)
  | inr behind ↦ elim (cases_Bool (covers at outage)) [
    | inl yes_ ↦ false≢true (sym (ap (λ b. cond b false (is_free later at)) yes_) ∙ is)
    | inr none ↦ free-clear later at x (sym (ap (λ b. cond b false (is_free later at)) none) ∙ is) behind from before
  ]
]

-- usable times that are lost are as many as outages take at most
module _ (usable : ℕ → Bool) (outages : List Outage) where
  abbrev pub usable_free : ℕ → Bool
  usable_free at = usable at && is_free outages at

  module _ (low : ℕ) where
    one-step : (u f : Bool) (at : ℕ) → low ≤ at → (f ≡ false → IsLost outages at)
        → (a b c : ℕ) → a + b ≤ c + lost_in low at outages
        → a + cond u 1 0 + b ≤ c + cond (u && f) 1 0 + lost_in low (suc at) outages
    one-step true true at from lost a b c sofar =
        let more : lost_in low at outages ≤ lost_in low (suc at) outages = parts-more outage_start outage_span any_outage low at (suc at) outages (omega arith) in
        omega (arith, sofar, more)
    one-step true false at from lost a b c sofar =
        let is = lost refl in
        let one : lost_in low at outages + 1 ≤ lost_in low (suc at) outages = parts-one outage_start outage_span any_outage low at outages is.it is.among refl from is.from is.before in
        omega (arith, sofar, one)
    one-step false f at from lost a b c sofar =
        let more : lost_in low at outages ≤ lost_in low (suc at) outages = parts-more outage_start outage_span any_outage low at (suc at) outages (omega arith) in
        omega (arith, sofar, more)

    counted : (k : ℕ) → count_below usable (low + k) + count_below usable_free low ≤ count_below usable_free (low + k) + count_below usable low + lost_in low (low + k) outages
    counted zero = rw (add-zero low) (omega arith)
    counted (suc k) =
        let sofar = counted k in
        let step = one-step (usable (low + k)) (is_free outages (low + k)) (low + k) (omega arith) (lost-there outages (low + k))
        (count_below usable (low + k)) (count_below usable_free low) (count_below usable_free (low + k) + count_below usable low) sofar in
        rw (add-suc low k) (omega (arith, step))

  pub counted-to : (low high : ℕ) → low ≤ high
      → count_below usable high + count_below usable_free low ≤ count_below usable_free high + count_below usable low + lost_in low high outages
  counted-to low high order =
      let same : low + (high - low) ≡ high = omega arith in
      subst (λ n. count_below usable n + count_below usable_free low ≤ count_below usable_free n + count_below usable low + lost_in low n outages) same (counted low (high - low))

-- fewer times, less lost
pub lost-less : (low from high : ℕ) (outages : List Outage) → low ≤ from → lost_in from high outages ≤ lost_in low high outages
lost-less low from high [] order = omega arith
lost-less low from high (outage ∷ later) order =
    omega (arith, sum_by-cons (overlap low high) outage later, sum_by-cons (overlap from high) outage later, order, lost-less low from high later order)
