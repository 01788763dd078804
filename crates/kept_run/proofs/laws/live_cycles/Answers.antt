use Rattle.kept_run.proofs.LiveRun.{live-answered, live-before, live-first, live-ready, live-run}
use Rattle.kept_run.proofs.laws.live_cycles.Goals as goal

pub returns : goal.returns
returns c = record {
  under_way = live-run;
  first = live-first;
  answered = live-answered;
  before = live-before;
  ready = live-ready;
}
