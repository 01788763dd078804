use Rattle.std.proofs.Common.{◌≡◌, ◌∙◌, ap, arith}
use Rattle.master_core.specs.Cores.{CoreView}
use Rattle.master_core.specs.Keeping.{MasterView}
use Rattle.master_core.proofs.Events.{room-used}
use Rattle.master_core.proofs.States.{core-upcoming}
use Rattle.master_core.proofs.Whole.{plain-more, whole-order}
use Rattle.master_core.proofs.master.Master.open_upcoming.Goals as goal

pub open_upcoming-order-requires-clause-upcoming : goal.open_upcoming-order-requires-clause-upcoming
open_upcoming-order-requires-clause-upcoming c = grind (arith, core-upcoming)

pub invariant_of-self : goal.invariant_of-self
invariant_of-self c =
    let spare = c.requires.spare in
    let same : c.self.inside.spare ≡ c.args.self.now.spare = ap (λ (v : MasterView). v.spare) c.self.view_is in
    rw c.put.ensures.events (
      c.open_upcoming-order.ensures.history _ c.self.invariant.0,
      ap (λ (v : CoreView). v.forgets) c.open_upcoming-order.ensures.state ∙ c.self.invariant.1,
      room-used _ _ _ _ _ c.self.invariant.2 (omega arith) c.put.ensures.room,
    )

pub returns-clause-order : goal.returns-clause-order
returns-clause-order c = grind (arith, whole-order)

pub returns-clause-legal : goal.returns-clause-legal
returns-clause-legal c = rw c.put.ensures.events (c.open_upcoming-order.ensures.history _ c.self.invariant.0).legal

pub returns-clause-plain : goal.returns-clause-plain
returns-clause-plain c plain = grind (arith, plain-more)
