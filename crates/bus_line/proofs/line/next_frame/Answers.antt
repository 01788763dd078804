use Rattle.std.proofs.Common.{arith, rules}
use Rattle.bus_line.proofs.Quiet.{quiet_until_wake, quiet_for_ever}
use Rattle.bus_line.proofs.line.next_frame.Goals as goal

pub returns-in_err-at-clause-next : goal.returns-in_err-at-clause-next
returns-in_err-at-clause-next g c = grind (arith, rules, quiet_for_ever)

pub loop-at-preserved : goal.loop-at-preserved
loop-at-preserved g c = grind (arith, rules, quiet_until_wake)
