-- What earlier frames leave on the bus.
use Rattle.std.proofs.Common.{◌≡◌, ℕ, ◌+◌, ◌<◌, ◌≤◌, true, List, [], ◌∷◌, ◌++◌, Contains, subst, arith}
use Rattle.std.specs.Prelude.{nat_lt}
use Rattle.std.proofs.lemmas.Bool.{ltb-true}
use Rattle.std.proofs.lemmas.List.Sums.{sum_by-append, sum_by-cons}
use Rattle.std.proofs.lemmas.List.Elements.{All-contains, All-filter, Contains-get_or, filter_passes}
use Rattle.can_frame.specs.declared.data_frame.TimedFrame.{TimedFrame}
use Rattle.bus_line.specs.Trace.{end_of, started_before}
use Rattle.node_model.proofs.Shared.{Contains-from_map}
use Rattle.cycle_engine.proofs.Shared.{Contains-here, Contains-later}
use Rattle.disturbed_runs.specs.Outages.{Outage, end_of_outage, lost_in, overlap, under_way}

pub started-in : (trace : List TimedFrame) (at : ℕ) (s : TimedFrame) → Contains (started_before at trace) s → Contains trace s × (s.start < at)
started-in trace at s has = (
  All-contains (λ x. Contains trace x) (started_before at trace) s
      (All-filter (λ x. nat_lt x.start at) (λ x. Contains trace x) trace (λ k d within. Contains-get_or trace k d within)) has,
  ltb-true s.start at (All-contains (λ x. nat_lt x.start at ≡ true) (started_before at trace) s (filter_passes (λ x. nat_lt x.start at) trace) has),
)

-- outages that have ended before take nothing
lost-none : (low high : ℕ) (xs : List Outage) → ((x : Outage) → Contains xs x → end_of_outage x ≤ low) → lost_in low high xs ≡ 0
lost-none low high [] ended = omega arith
lost-none low high (x ∷ xs) ended =
    omega (arith, sum_by-cons (overlap low high) x xs, ended x (Contains-here x xs), lost-none low high xs (λ y has. ended y (Contains-later x xs y has)))

-- and so do frames that have
pub lost-same : (low high at : ℕ) (outages : List Outage) (trace : List TimedFrame) → at ≤ low
    → ((s : TimedFrame) → Contains trace s → s.start < at → end_of s ≤ at)
    → lost_in low high (outages ++ under_way at trace) ≡ lost_in low high outages
lost-same low high at outages trace order ended =
    let none = lost-none low high (under_way at trace) (λ x has.
    let from = Contains-from_map (λ (sent : TimedFrame). record { start = sent.start; span = sent.len }) (started_before at trace) x has in
    let is = started-in trace at from.0 from.1 in
    let by : end_of from.0 ≤ low = omega (arith, ended from.0 is.0 is.1, order) in
    subst (λ y. end_of_outage y ≤ low) from.2 by) in
    omega (arith, sum_by-append (overlap low high) outages (under_way at trace), none)
