use Rattle.std.proofs.Common.{◌≡◌, drop}
use Rattle.requirement_table.specs.Table.{instance_in}
use Rattle.sporadic_poll.proofs.current.current_among.Given as goal

-- the entries before hold none
abbrev pub invariant-loop-p : goal.invariant-loop-p
invariant-loop-p l = instance_in (drop l.p-index l.placed) l.slot l.cycle ≡ instance_in l.placed l.slot l.cycle
