use Rattle.fttcan_c.proofs.Safe.{from_nothing}
use Rattle.fttcan_c.proofs.laws.safe_from_nothing.Goals as goal

pub returns : goal.returns
returns c = record { safe = λ rules. from_nothing rules }
