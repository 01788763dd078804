use Rattle.std.proofs.Common.{rules}
use Rattle.live_master.proofs.Standing.{pass_of, split_from_idle, split_off_idle}
use Rattle.live_master.proofs.live.LiveMaster.operator.Goals as goal

pub invariant_of-pass : goal.invariant_of-pass
invariant_of-pass c =
    (split_from_idle _ _ c.pass.invariant.0 c.split_pass-operator.ensures.lent c.split_pass-operator.ensures.facts.0, search rules, search rules)

pub invariant_of-result : goal.invariant_of-result
invariant_of-result c =
    (split_off_idle _ _ c.pass.invariant.0 c.split_pass-operator.ensures.given c.split_pass-operator.ensures.facts.1, search rules, search rules, search rules)

pub returns-clause-standing : goal.returns-clause-standing
returns-clause-standing c =
    pass_of _ _ (split_from_idle _ _ c.pass.invariant.0 c.split_pass-operator.ensures.lent c.split_pass-operator.ensures.facts.0) (search rules)

pub returns-clause-made : goal.returns-clause-made
returns-clause-made c =
    pass_of _ _ (split_off_idle _ _ c.pass.invariant.0 c.split_pass-operator.ensures.given c.split_pass-operator.ensures.facts.1) (search rules)
