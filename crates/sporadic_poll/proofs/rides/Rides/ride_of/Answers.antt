use Rattle.std.proofs.Common.{◌≡◌, ◌<◌, ◌+◌, length, true, sym, ap, ◌∙◌, arith}
use Rattle.sporadic_poll.specs.Polled.{is_polled}
use Rattle.sporadic_poll.proofs.Carried.{polled_known, ride_by, ride_polled}
use Rattle.sporadic_poll.proofs.rides.Rides.ride_of.Goals as goal

pub returns-in_err-place-clause-ride : goal.returns-in_err-place-clause-ride
returns-in_err-place-clause-ride c = rw (← c.self.view_is, c.from_residual-in_err-place.ensures) (λ carried ridden.
    let streams = c.self.inside.queues.streams in
    let current = c.in_ok-current.current in
    let polled : is_polled streams c.args.slot ≡ true = sym (c.self.invariant.are_polled c.args.slot) ∙ sym c.has.ensures.slot ∙ c.if-not-has.false in
    let known = polled_known streams c.args.slot (length c.self.inside.queues.next) polled c.self.invariant.known in
    let took = c.in_err-place.ensures.took (carried c.args.slot) (c.args.cycle + 1) (rw c.self.view_is at (ridden c.args.slot known)) (omega (arith, c.in_ok-current.ensures.released)) in
    sym (ride_polled streams carried c.args.placed.now c.args.cycle c.args.slot current polled c.in_ok-current.ensures.value ∙ ap (ride_by current.release) (sym took)))

pub returns-clause-ride : goal.returns-clause-ride
returns-clause-ride c = rw (← c.self.view_is) (λ carried ridden.
    let streams = c.self.inside.queues.streams in
    let current = c.in_ok-current.current in
    let polled : is_polled streams c.args.slot ≡ true = sym (c.self.invariant.are_polled c.args.slot) ∙ sym c.has.ensures.slot ∙ c.if-not-has.false in
    let known = polled_known streams c.args.slot (length c.self.inside.queues.next) polled c.self.invariant.known in
    let took = c.in_ok-place.ensures.took (carried c.args.slot) (c.args.cycle + 1) (rw c.self.view_is at (ridden c.args.slot known)) (omega (arith, c.in_ok-current.ensures.released)) in
    sym (ride_polled streams carried c.args.placed.now c.args.cycle c.args.slot current polled c.in_ok-current.ensures.value ∙ ap (ride_by current.release) (sym took)))

pub returns-clause-taken : goal.returns-clause-taken
returns-clause-taken c = rw (← c.self.view_is) (λ carried ridden.
    let streams = c.self.inside.queues.streams in
    let current = c.in_ok-current.current in
    let polled : is_polled streams c.args.slot ≡ true = sym (c.self.invariant.are_polled c.args.slot) ∙ sym c.has.ensures.slot ∙ c.if-not-has.false in
    let known = polled_known streams c.args.slot (length c.self.inside.queues.next) polled c.self.invariant.known in
    let before : current.release < c.args.cycle + 1 = omega (arith, c.in_ok-current.ensures.released) in
    let took = c.in_ok-place.ensures.took (carried c.args.slot) (c.args.cycle + 1) (rw c.self.view_is at (ridden c.args.slot known)) before in
    ((ridden c.args.slot known).noted c.in_ok-place.place current.release (sym took) before).noted)
