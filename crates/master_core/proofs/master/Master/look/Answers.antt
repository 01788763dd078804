use Rattle.std.proofs.Common.{◌≡◌, ap, arith}
use Rattle.master_core.specs.Keeping.{MasterView}
use Rattle.master_core.proofs.Events.{room-used}
use Rattle.master_core.proofs.Histories.{plain-push}
use Rattle.master_core.proofs.master.Master.look.Goals as goal

pub invariant_of-self : goal.invariant_of-self
invariant_of-self c =
    let spare = c.requires.spare in
    let same : c.self.inside.spare ≡ c.args.self.now.spare = ap (λ (v : MasterView). v.spare) c.self.view_is in
    rw c.put.ensures.events
    (c.next-next.ensures.looked _ c.args.caller c.self.invariant.0, c.self.invariant.1, room-used _ _ _ _ _ c.self.invariant.2 (omega arith) c.put.ensures.room)

pub returns-clause-legal : goal.returns-clause-legal
returns-clause-legal c = rw c.put.ensures.events (c.next-next.ensures.looked _ c.args.caller c.self.invariant.0).legal

pub returns-clause-plain : goal.returns-clause-plain
returns-clause-plain c plain = grind (arith, plain-push)
