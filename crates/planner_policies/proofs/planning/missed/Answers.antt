use Rattle.std.proofs.Common.{get_or, take}
use Rattle.std.proofs.lemmas.List.{take_more}
use Rattle.planner_policies.specs.declared.due.Due.{Due}
use Rattle.planner_policies.proofs.Missed.{least_missed-more, least_missed-other}
use Rattle.planner_policies.proofs.planning.missed.Goals as goal
use Rattle.planner_policies.proofs.planning.missed.Goals.{then-due-cycle, else-due-cycle}

abbrev no_due : Due
no_due = record { key = 0; priority = 0; slot = 0; cost = 0; release = 0; last = 0 }

pub loop-due-preserved : goal.loop-due-preserved
loop-due-preserved c =
    let line = c.args.line.now in
    let i = c.loop-due.due-index in
    let d = get_or line i no_due in
    rw (take_more line i no_due c.loop-due-test.true)
    (elim c.if-due-cycle.branch [
      | then-due-cycle w ↦
          rw (w.least-is, w.lesser.ensures.lesser)
          (least_missed-more c.args.cycle (take i line) d c.loop-due.least c.loop-due.invariant w.if-due-cycle.true)
      | else-due-cycle w ↦
          rw w.least-is (least_missed-other c.args.cycle (take i line) d c.loop-due.least c.loop-due.invariant w.if-due-cycle.false)
    ])
