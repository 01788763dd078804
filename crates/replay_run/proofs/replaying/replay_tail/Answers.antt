use Rattle.replay_run.proofs.Whole.{tail-of}
use Rattle.replay_run.proofs.replaying.replay_tail.Goals as goal

pub returns-in-Ok-clause-tail : goal.returns-in-Ok-clause-tail
returns-in-Ok-clause-tail c =
    let heard = c.in-Ok.ensures.heard in
    record {
      log = heard.text;
      is = heard.is;
      last = tail-of heard.text c.new-tail.result c.log_steps.new.listener
          c.in_ok-text-in-Ok.field-0.items c.args.rows heard.heard c.new-tail.ensures.none c.in_ok-text-in-Ok.ensures.last c.new-tail.ensures.most;
    }
