use Rattle.std.proofs.Common.{arith, subst, sym, ◌<◌, IfSome}
use Rattle.plan_report.proofs.Widths.{goes-on}
use Rattle.plan_report.proofs.load.sends_until.Goals as goal

pub returns-in-None-clause-sends : goal.returns-in-None-clause-sends
returns-in-None-clause-sends c = λ number later sends from below.
    let some = c.requires.range.entry.some_time in
    let within = c.requires.range.entry.deadline in
    goes-on c.args.p.now number c.args.cycle later c.if-deadline-period.false (omega (arith, some, within)) sends from
    (subst (λ end. IfSome end (λ e. later < e)) (sym c.in-None.is) tt)

pub returns-then-cycle-end-clause-sends : goal.returns-then-cycle-end-clause-sends
returns-then-cycle-end-clause-sends c = λ number later sends from below.
    let some = c.requires.range.entry.some_time in
    let within = c.requires.range.entry.deadline in
    goes-on c.args.p.now number c.args.cycle later c.if-deadline-period.false (omega (arith, some, within)) sends from
    (subst (λ end. IfSome end (λ e. later < e)) (sym c.in-Some.is) below)
