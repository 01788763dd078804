use Rattle.sporadic_poll.proofs.StreamsMean.{computed_fault, computed_streams, fault_computed, no_memory, streams_computed}
use Rattle.sporadic_poll.proofs.stream_laws.streams_mean.Goals as goal

pub returns : goal.returns
returns c =
    record {
      ok = λ slots rows streams. (computed_streams slots rows streams, streams_computed slots rows streams);
      fault = λ slots rows number why. (computed_fault slots rows number why, fault_computed slots rows number why);
      no_more = no_memory;
    }
