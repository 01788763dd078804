use Rattle.std.proofs.Common.{◌*◌}
use Rattle.async_bound.specs.Room.{is_usable}
use Rattle.bounded_runs.proofs.Fills.{answering-run, level-fills}
use Rattle.bounded_runs.proofs.laws.waiting_fills_the_bus.Goals as goal

pub returns : goal.returns
returns c = record {
  filled = λ sends layout requests openings count trace longest id low high blocked known run within soon pressed.
      level-fills requests trace (is_usable layout longest) longest (count * layout.cycle) (answering-run sends layout known requests openings count trace run longest)
      id low high blocked within soon pressed;
}
