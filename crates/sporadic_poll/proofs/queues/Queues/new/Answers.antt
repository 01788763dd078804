use Rattle.sporadic_poll.proofs.Taken.{none_taken}
use Rattle.sporadic_poll.proofs.queues.Queues.new.Goals as goal

pub returns-clause-fresh : goal.returns-clause-fresh
returns-clause-fresh c = λ slot carried known.
    rw (c.link.ensures.first slot (rw (c.in_ok-next.ensures.whole, c.from.ensures) known), c.as_slice.ensures.value) (none_taken c.args.streams.items slot carried)
