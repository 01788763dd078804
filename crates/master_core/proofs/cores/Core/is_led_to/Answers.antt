use Rattle.std.proofs.Common.{arith}
use Rattle.master_core.proofs.cores.Core.is_led_to.Goals as goal

pub leads-requires-clause-valid : goal.leads-requires-clause-valid
leads-requires-clause-valid c = grind arith

pub returns-clause-led : goal.returns-clause-led
returns-clause-led c = grind arith

pub returns-clause-apart : goal.returns-clause-apart
returns-clause-apart c = grind arith
