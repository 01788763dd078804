-- A whole run, by its history alone.
use Rattle.std.proofs.Common.{◌≡◌, ◌⊎◌, inl, inr, ℕ, ◌≤◌, ◌==◌, List, true, slice_index_or, All, Contains, sym, subst, arith}
use Rattle.std.proofs.lemmas.List.Elements.{All-contains, Contains-get_or, filter_passes}
use Rattle.turn_lock.specs.History.{own}
use Rattle.turn_lock.specs.declared.view.View.{View}
use Rattle.admission_rules.specs.declared.Rules.{Rules}
use Rattle.master_core.specs.declared.event.Event.{Event}
use Rattle.live_master.specs.Callers.{number_of}
use Rattle.live_master.specs.Passes.{HasAllCalls}

-- a call among those of this number has this number
of-number : (n : ℕ) (history calls : List Event) (event : Event) → own number_of n history ≡ calls → Contains calls event → number_of event ≡ n
of-number n history calls event is among =
    let passes = All-contains (λ e. (number_of e == n) ≡ true) (own number_of n history) event (filter_passes (λ e. number_of e == n) history)
    (subst (λ (l : List Event). Contains l event) (sym is) among) in
    grind arith

few-case : (most : ℕ) (history : List Event) (v : View Event Rules) (event : Event) → v.number ≡ 0 → HasAllCalls history v
    → All (λ (entry : ℕ × List Event). entry.0 ≤ most) v.ended
    → Contains v.mine event ⊎ ((n : ℕ) × (calls : List Event) × Contains v.ended (n, calls) × Contains calls event) → number_of event ≤ most
few-case most history v event zeroth calls few (inl own_one) =
    let is = of-number v.number history v.mine event calls.mine own_one in omega arith
few-case most history v event zeroth calls few (inr (n, others, under, among)) =
    let is = of-number n history others event (calls.ended n others under) among in
    let small = All-contains (λ (entry : ℕ × List Event). entry.0 ≤ most) v.ended (n, others) few under in
    omega arith

-- each call of a history that has all calls of a pass is the pass's own, or has a number under which calls stand
pub calls-of-few : (most : ℕ) (history : List Event) (v : View Event Rules) → v.number ≡ 0 → HasAllCalls history v
    → All (λ (entry : ℕ × List Event). entry.0 ≤ most) v.ended → All (λ event. number_of event ≤ most) history
calls-of-few most history v zeroth calls few k d within =
    let event = slice_index_or history k d in
    few-case most history v event zeroth calls few (calls.covered event (Contains-get_or history k d within))
