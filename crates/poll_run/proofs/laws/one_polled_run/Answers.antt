use Rattle.std.proofs.Common.{◌≡◌, List, sym, subst, arith}
use Rattle.master_core.specs.declared.event.Event.{Event}
use Rattle.master_core.specs.Openings.{openings_of}
use Rattle.replay_run.proofs.Shared.{is_rules}
use Rattle.sporadic_poll.specs.Polled.{AreRides, lengths_of}
use Rattle.poll_run.specs.PolledRun.{IsPolledTrace}
use Rattle.poll_run.proofs.OneRun.{one-trace}
use Rattle.poll_run.proofs.laws.one_polled_run.Goals as goal

pub returns-clause-one_ride : goal.returns-clause-one_ride
returns-clause-one_ride c = λ system steps streams one other carried again trace second first later slot cycle known.
    let same : one ≡ other = c.one_run.ensures.one_history system.rules steps one other first.polled.plain later.polled.plain first.answers later.answers in
    c.one_ride.ensures.one system.layout.cycle streams slot (lengths_of (openings_of one) slot) (carried slot) (again slot) (first.polled.rides slot known)
    (subst (λ (h : List Event). AreRides system.layout.cycle streams (openings_of h) again) (sym same) later.polled.rides slot known) cycle

pub returns-clause-one_trace : goal.returns-clause-one_trace
returns-clause-one_trace c = λ system steps streams one other carried again trace second is legal first later.
    let same : one ≡ other = c.one_run.ensures.one_history system.rules steps one other first.polled.plain later.polled.plain first.answers later.answers in
    let few = (is_rules system is).few_slots in
    one-trace system streams one carried again trace second
    (λ k d within. let below = (legal.each k d within).known in omega (arith, below, few))
    (λ slot cycle known. c.one_ride.ensures.one system.layout.cycle streams slot (lengths_of (openings_of one) slot) (carried slot) (again slot) (first.polled.rides slot known)
    (subst (λ (h : List Event). AreRides system.layout.cycle streams (openings_of h) again) (sym same) later.polled.rides slot known) cycle)
    first.polled (subst (λ (h : List Event). IsPolledTrace system streams h again second) (sym same) later.polled)
