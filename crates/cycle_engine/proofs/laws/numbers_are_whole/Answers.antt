use Rattle.cycle_engine.proofs.Window.{bytes_of-whole}
use Rattle.cycle_engine.proofs.laws.numbers_are_whole.Goals as goal

pub returns : goal.returns
returns c = record { whole = bytes_of-whole }
