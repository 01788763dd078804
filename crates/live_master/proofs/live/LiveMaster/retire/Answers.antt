use Rattle.std.proofs.Common.{rules}
use Rattle.live_master.proofs.Standing.{joined_idle, pass_of}
use Rattle.live_master.proofs.live.LiveMaster.retire.Goals as goal

pub invariant_of-pass : goal.invariant_of-pass
invariant_of-pass c =
    (joined_idle c.self.inside.turn c.pass.inside.pass c.operator.inside.pass c.join_pass.new.pass c.pass.invariant.0 c.operator.invariant.0 (search rules) (search rules) c.join_pass.ensures.joined c.join_pass.ensures.facts, search rules, search rules)

pub returns-clause-standing : goal.returns-clause-standing
returns-clause-standing c =
    pass_of _ _ (joined_idle c.self.inside.turn c.pass.inside.pass c.operator.inside.pass c.join_pass.new.pass c.pass.invariant.0 c.operator.invariant.0 (search rules) (search rules) c.join_pass.ensures.joined c.join_pass.ensures.facts) (search rules)
