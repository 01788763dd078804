use Rattle.std.proofs.Common.{Vec, Global, ap, ◌∙◌}
use Rattle.bit_sets.specs.declared.slots.Mask.{Mask}
use Rattle.master_core.proofs.Certificates.{listed-opening, listed-other}
use Rattle.master_core.proofs.opened.opened_masks.Goals as goal
use Rattle.master_core.proofs.opened.opened_masks.Goals.{in-Open+in_ok-push, in_default}

pub loop-event-preserved : goal.loop-event-preserved
loop-event-preserved c =
    let history = c.args.history.now in
    let n = c.loop-event.event-index in
    elim c.match-event.branch [
      | in-Open+in_ok-push w ↦
          ap (λ (v : Vec Mask Global). v.items) w.masks-is
          ∙ w.in_ok-push.ensures.items
          ∙ listed-opening history n c.event-item.result c.loop-event.masks.items c.loop-event-test.true c.event-item.is c.loop-event.invariant w.in-Open.cycle
          w.in-Open.mask w.in-Open.is
      | in_default w ↦
          ap (λ (v : Vec Mask Global). v.items) w.masks-is
          ∙ listed-other history n c.event-item.result c.loop-event.masks.items c.loop-event-test.true c.event-item.is c.loop-event.invariant w.in_default.not-Open
    ]
