use Rattle.std.proofs.Common.{get_or, take}
use Rattle.std.proofs.lemmas.List.{take_more}
use Rattle.planner_policies.specs.declared.due.Due.{Due}
use Rattle.planner_policies.proofs.EachLoop.{gone-leave, gone-take}
use Rattle.planner_policies.proofs.planning.each_of.Goals as goal
use Rattle.planner_policies.proofs.planning.each_of.Goals.{then-due-w, else-due-w}

abbrev no_due : Due
no_due = record { key = 0; priority = 0; slot = 0; cost = 0; release = 0; last = 0 }

pub loop-due-preserved : goal.loop-due-preserved
loop-due-preserved c =
    let line = c.args.line.now in
    let i = c.loop-due.due-index in
    let d = get_or line i no_due in
    let now = c.loop-due in
    rw (take_more line i no_due c.loop-due-test.true)
    (elim c.if-due-w.branch [
      | then-due-w w ↦
          rw (w.width-is, w.mask-is, w.left-is, w.least-is)
          (gone-take c.args.w c.args.cycle (take i line) d now.width now.mask now.left now.least now.invariant w.with-mask.result w.if-due-w.true
          w.with-mask.ensures.slots)
      | else-due-w w ↦
          rw (w.width-is, w.mask-is, w.left-is, w.least-is, w.with_missed-least.ensures.result)
          (gone-leave c.args.w c.args.cycle (take i line) d now.width now.mask now.left now.least now.invariant w.with-left.result w.if-due-w.false
          w.with-left.ensures.slots)
    ])
