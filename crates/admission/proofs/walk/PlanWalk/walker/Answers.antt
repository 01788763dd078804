use Rattle.std.proofs.Common.{◌∙◌}
use Rattle.admission.proofs.Places.{same-standing}
use Rattle.admission.proofs.walk.PlanWalk.walker.Goals as goal

pub returns-then-bits-eq0 : goal.returns-then-bits-eq0
returns-then-bits-eq0 c =
    let walk = c.args.self.now in
    record { standing = c.ahead_to_pass.ensures.same ∙ same-standing walk.start.now walk.first walk.cycle walk.pending }
