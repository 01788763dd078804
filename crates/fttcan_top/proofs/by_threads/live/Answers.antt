use Rattle.fttcan_top.specs.Ends.{refusal_of}
use Rattle.fttcan_top.proofs.EndLemmas.{command-status, did}
use Rattle.fttcan_top.proofs.by_threads.live.Goals as goal

pub returns : goal.returns
returns g c = record {
  answers = record {
    refusal = refusal_of c.call-ended.result;
    did = did _ _ _ _ _ _ _ _ c.call-ended.result c.tell.result c.tell.ensures.status c.call-ended.ensures.ended;
    command = λ none. command-status c.call-ended.result c.tell.result c.tell.ensures.status (c.call-ended.ensures.command none);
    message = c.tell.ensures.message;
    shelf = c.call-ended.ensures.fetched;
    out_faults_never_fall = c.call-ended.ensures.out_faults_never_fall;
    err_faults_never_fall = c.tell.ensures.faults_never_fall;
  };
}
