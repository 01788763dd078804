use Rattle.std.proofs.Common.{◌≡◌, ◌+◌, ◌-◌, sym, ◌∙◌, arith}
use Rattle.bus_trace.specs.Log.{trigger_count_with, triggers_in}
use Rattle.plan_report.proofs.Counted.{tallies-before, tallies-strange}
use Rattle.plan_report.proofs.sent.count_frame.Goals as goal

pub returns-then-seen-eq0-clause-tallies : goal.returns-then-seen-eq0-clause-tallies
returns-then-seen-eq0-clause-tallies c = λ frames are seen. tallies-before frames _ _ _ (sym seen ∙ c.if-seen-eq0.true) are

pub returns-in_default-clause-tallies : goal.returns-in_default-clause-tallies
returns-in_default-clause-tallies c = λ frames are seen. tallies-strange frames _ _ _ c.requires.well_placed c.in_default.ensures.slot are

pub returns-clause-tallies : goal.returns-clause-tallies
returns-clause-tallies c = λ frames are seen.
    let some = c.if-seen-eq0.false in
    let now : trigger_count_with (triggers_in frames) c.args.sent.now ≡ c.args.seen - 1 + 1 = omega arith in
    c.count_slot.ensures.counted frames c.args.sent.now are c.in-Some.ensures.slot.1 now
