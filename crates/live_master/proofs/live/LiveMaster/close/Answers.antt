use Rattle.std.proofs.Common.{◌∙◌, subst}
use Rattle.turn_lock.specs.Passes.{Known}
use Rattle.master_core.specs.declared.event.Event.{Event}
use Rattle.admission_rules.specs.declared.Rules.{Rules}
use Rattle.live_master.specs.Passes.{HasAllCalls}
use Rattle.live_master.proofs.Standing.{all_calls}
use Rattle.live_master.proofs.live.LiveMaster.close.Goals as goal

pub returns-clause-calls : goal.returns-clause-calls
returns-clause-calls c =
    subst (λ (k : Known Event Rules). HasAllCalls c.in-Some.master.history k.view) c.pass.view_is
    (all_calls c.pass.inside.pass.view c.in-Some.master.history c.pass.invariant.0 (c.in-Some.ensures.history ∙ c.close-master.ensures.stands) c.close-master.ensures.covered)
