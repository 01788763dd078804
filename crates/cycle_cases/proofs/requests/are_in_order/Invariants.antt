use Rattle.std.proofs.Common.{take}
use Rattle.cycle_cases.proofs.InOrder.{AreInOrder}
use Rattle.cycle_cases.proofs.requests.are_in_order.Given as goal

abbrev pub invariant-loop-request : goal.invariant-loop-request
invariant-loop-request l = AreInOrder (take l.request-index l.requests) l.last
