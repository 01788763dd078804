use Rattle.requests_file.proofs.RequestsMean.{computed_fault, computed_requests, fault_computed, no_memory, requests_computed}
use Rattle.requests_file.proofs.request_laws.requests_mean.Goals as goal

pub returns : goal.returns
returns c =
    record {
      ok = λ owners rows requests. (computed_requests owners rows requests, requests_computed owners rows requests);
      fault = λ owners rows number why. (computed_fault owners rows number why, fault_computed owners rows number why);
      no_more = no_memory;
    }
