use Rattle.std.proofs.Common.{◌<◌, arith}
use Rattle.std.proofs.lemmas.Bool.Decides.{nat_tests}
use Rattle.std.specs.Prelude.{sum_by}
use Rattle.steps_file.specs.StepsFile.{count_of}
use Rattle.master_core.specs.History.{next_of}
use Rattle.log_reader.specs.Row.{opened_row}
use Rattle.trace_audit.proofs.Bringing.{opened-on}
use Rattle.trace_audit.proofs.rerun.Rerun.follow_opening.Goals as goal

pub returns-clause-on : goal.returns-clause-on
returns-clause-on c = λ system requests trace opened again yes.
    let run = c.in_ok-open.ensures.opened system requests trace again in
    let history = c.args.self.now.master.history in
    let next = c.next.ensures.next in
    let sum = c.requires.ahead.cycles in
    let test = c.if-next-self.false in
    let few : next_of history < sum_by count_of c.args.steps.now = grind (arith, nat_tests) in
    opened-on system c.args.steps.now requests trace c.args.self.now c.open.new.self (opened_row opened) run few
    c.requires.ahead c.open.ensures.ahead
