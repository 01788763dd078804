use Rattle.std.proofs.Common.{◌≡◌, ◌+◌, replicate}
use Rattle.master_core.specs.Calls.{opens}
use Rattle.replay_run.proofs.driver.open_cycles.Given as goal

abbrev pub invariant-loop : goal.invariant-loop
invariant-loop g l = record {
  ready : g.D.Driven.is_ready l.driven;
  goes_on : g.D.Driven.goes_on l.initial.driven (replicate l.counter opens) l.driven;
  cycles : g.D.Driven.cycles l.driven ≡ g.D.Driven.cycles l.initial.driven + l.counter;
}
