use Rattle.std.proofs.Common.{subst, sym, ◌∙◌}
use Rattle.handover_run.specs.Handed.{IsHanded}
use Rattle.handover_run.proofs.Behind.{next-taken-over, taken-over}
use Rattle.handover_run.proofs.handed.Handed.hand_over.Goals as goal

pub returns-in-Some-clause-still : goal.returns-in-Some-clause-still
returns-in-Some-clause-still c = λ setting whole trace is.
    let run = c.args.self.now in
    subst
    (λ standby. IsHanded setting whole trace (record run { bus = record run.bus { master = c.of.result }; standby = standby }))
    (sym c.take.ensures.after)
    (taken-over
    (record {
      placed = c.one_core.ensures.placed;
      next = c.one_core.ensures.next;
      changed = c.one_core.ensures.changed;
      openings = c.one_core.ensures.openings;
      order = c.one_core.ensures.order;
    })
    run c.in-Some.standby c.of.result (sym c.take.ensures.value ∙ c.in-Some.is) (c.of.ensures.rules ∙ c.take_over.ensures.rules)
    (c.of.ensures.history ∙ c.take_over.ensures.history) (rw (c.of.ensures.rules, c.of.ensures.history) c.take_over.ensures.plain)
    c.of.ensures.keeps setting whole trace is)

pub returns-in-Some-clause-next : goal.returns-in-Some-clause-next
returns-in-Some-clause-next c =
    next-taken-over
    (record {
      placed = c.one_core.ensures.placed;
      next = c.one_core.ensures.next;
      changed = c.one_core.ensures.changed;
      openings = c.one_core.ensures.openings;
      order = c.one_core.ensures.order;
    })
    c.args.self.now c.in-Some.standby c.of.result (sym c.take.ensures.value ∙ c.in-Some.is) (c.of.ensures.history ∙ c.take_over.ensures.history)
