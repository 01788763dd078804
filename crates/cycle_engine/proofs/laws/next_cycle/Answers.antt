use Rattle.cycle_engine.proofs.OneMore.{more-can_trace, more-cycles, more-ended, more-runs}
use Rattle.cycle_engine.proofs.laws.next_cycle.Goals as goal

pub returns : goal.returns
returns c = record { can_trace = more-can_trace; ended = more-ended; runs = more-runs; all_run = more-cycles }
