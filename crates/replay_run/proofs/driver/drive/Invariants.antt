use Rattle.std.proofs.Common.{◌≡◌, take}
use Rattle.std.specs.Prelude.{sum_by}
use Rattle.std.specs.List.{flat_map}
use Rattle.steps_file.specs.StepsFile.{count_of}
use Rattle.replay_run.specs.Run.{calls_of}
use Rattle.replay_run.proofs.driver.drive.Given as goal

abbrev pub invariant-loop-step : goal.invariant-loop-step
invariant-loop-step g l = record {
  ready : g.D.Driven.is_ready l.driven;
  goes_on : g.D.Driven.goes_on l.initial.driven (flat_map calls_of (take l.step-index l.steps)) l.driven;
  cycles : g.D.Driven.cycles l.driven ≡ sum_by count_of (take l.step-index l.steps);
}
