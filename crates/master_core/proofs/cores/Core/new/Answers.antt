use Rattle.std.proofs.Common.{arith, refl}
use Rattle.master_core.proofs.CoreSteps.{core-new}
use Rattle.master_core.proofs.States.{state-new}
use Rattle.master_core.proofs.cores.Core.new.Goals as goal

pub invariant_of-result : goal.invariant_of-result
invariant_of-result c =
    rw (c.in_ok-table.ensures.placed, c.in_ok-table.ensures.since, c.in_ok-table.ensures.ranked, c.new.ensures.items, c.empty.ensures.number)
    (core-new c.args.rules c.args.forgets c.requires.rules, record { passed = omega arith; left = refl })

pub returns-clause-history : goal.returns-clause-history
returns-clause-history c =
    rw (c.in_ok-table.ensures.placed, c.new.ensures.items, c.empty.ensures.number) (state-new c.args.forgets c.args.rules c.args.forgets)
