use Rattle.std.proofs.Common.{◌≡◌, suc, arith}
use Rattle.bus_trace.specs.Log.{trigger_count_with, triggers_in}
use Rattle.plan_report.proofs.Counted.{tallies-none, tallies-one}
use Rattle.plan_report.proofs.sent.count_found.Goals as goal

pub returns-in_default-clause-counted : goal.returns-in_default-clause-counted
returns-in_default-clause-counted c = λ frames sent are of_slot now.
    let next : trigger_count_with (triggers_in frames) sent ≡ suc c.args.cycle = omega (arith, now) in
    tallies-none frames c.args.placed.now sent c.args.tallies.now c.args.slot c.args.cycle c.requires.well_placed of_slot next are c.in_default.ensures.found

pub returns-clause-counted : goal.returns-clause-counted
returns-clause-counted c = λ frames sent are of_slot now.
    let next : trigger_count_with (triggers_in frames) sent ≡ suc c.args.cycle = omega (arith, now) in
    tallies-one frames c.args.placed.now sent c.args.tallies.now c.args.slot c.args.cycle c.requires.well_placed of_slot next are
    c.in-Some.found _ c.counted-count.result c.in-Some.ensures.found c.counted-count.ensures.tally c.counted-count.ensures.released
