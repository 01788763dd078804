use Rattle.sporadic_poll.proofs.Carried.{noted_by}
use Rattle.sporadic_poll.proofs.rides.Rides.taken_by.Goals as goal

pub returns-clause-took : goal.returns-clause-took
returns-clause-took c = λ carried cycle ridden before.
    noted_by c.args.slot c.args.release cycle carried c.args.self.now c.noted_as.result
    (rw c.streams.ensures.list at c.noted_as.ensures.found)
    (rw c.fates.ensures.list at c.noted_as.ensures.noted)
    (rw (c.streams.ensures.list, c.fates.ensures.list) at c.noted_as.ensures.none)
    ridden before
