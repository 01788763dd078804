use Rattle.master_core.proofs.LeadsOn.{led-here, led-opened, not-led}
use Rattle.master_core.proofs.laws.leading_plans.Goals as goal

pub returns : goal.returns
returns c = record { here = led-here; opened = led-opened; accepted = not-led }
