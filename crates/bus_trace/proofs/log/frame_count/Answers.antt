use Rattle.bus_trace.proofs.log.frame_count.Goals as goal

pub returns-in-Open-clause-left : goal.returns-in-Open-clause-left
returns-in-Open-clause-left c = λ trace next is. rw c.in-Open.is (c.cycle_len.ensures.left trace next is)
