use Rattle.bus_trace.proofs.LogTrace.{cycle_len-is, started_in-cycle, IsLeft-next}
use Rattle.bus_trace.proofs.frames.cycle_len.Goals as goal

pub returns-in-len1-up-clause-frames : goal.returns-in-len1-up-clause-frames
returns-in-len1-up-clause-frames c = λ trace next is.
    rw (cycle_len-is c.args.left.now _ c.in-len1-up.len_at_least c.until_trigger.ensures.place) (started_in-cycle trace next c.args.left.now is)

pub returns-in-len1-up-clause-left : goal.returns-in-len1-up-clause-left
returns-in-len1-up-clause-left c = λ trace next is.
    rw (cycle_len-is c.args.left.now _ c.in-len1-up.len_at_least c.until_trigger.ensures.place) (IsLeft-next trace next c.args.left.now is)
