use Rattle.std.proofs.Common.{refl}
use Rattle.fttcan_c.proofs.ForC.{answered_for_c}
use Rattle.fttcan_c.proofs.laws.cores_for_c.Goals as goal

pub returns-clause-made : goal.returns-clause-made
returns-clause-made c rules are = record { forgets = refl; slots = are.slots }

pub returns-clause-answered : goal.returns-clause-answered
returns-clause-answered c core from change verdict is = answered_for_c core from change verdict is

pub returns-clause-opened : goal.returns-clause-opened
returns-clause-opened c core is = record { forgets = is.forgets; slots = is.slots }
