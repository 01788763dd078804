use Rattle.std.proofs.Common.{arith}
use Rattle.bit_sets.specs.Sets.{has_bit}
use Rattle.bus_trace.proofs.Shared.{width-le}
use Rattle.plan_report.proofs.load.renew.Goals as goal

pub returns-then-eq-clause-range : goal.returns-then-eq-clause-range
returns-then-eq-clause-range c =
    let same = c.requires.known c.args.cycle (omega arith) c.if-cycle-known.true in
    let all = width-le c.args.placed.now c.args.cycle (has_bit c.args.known.now.mask) c.requires.well_placed in
    omega (arith, same, all)
