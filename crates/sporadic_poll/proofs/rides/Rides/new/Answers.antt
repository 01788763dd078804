use Rattle.std.proofs.Common.{◌<◌, arith}
use Rattle.sporadic_poll.proofs.Fates.{fresh_fates, fresh_ridden}
use Rattle.sporadic_poll.proofs.rides.Rides.new.Goals as goal

pub returns-clause-fresh : goal.returns-clause-fresh
returns-clause-fresh c = λ carried slot known.
    let within : slot < c.args.slots = omega (arith, known, c.in_ok-new.ensures.slots) in
    fresh_ridden slot (carried slot) c.in_ok-new.field-0 c.in_ok-latest.latest.items c.in_ok-fates.fates.items (c.in_ok-new.ensures.fresh slot (carried slot) within)
    c.in_ok-fates.ensures.each (c.in_ok-latest.ensures.each slot (omega (arith, within, c.in_ok-latest.ensures.whole)))

pub returns-clause-fates : goal.returns-clause-fates
returns-clause-fates c = λ carried. fresh_fates c.in_ok-new.field-0.streams carried c.in_ok-fates.fates.items c.in_ok-fates.ensures.each
