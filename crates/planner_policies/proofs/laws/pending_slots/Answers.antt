use Rattle.std.proofs.Common.{sym, ◌∙◌}
use Rattle.bit_sets.specs.Sets.{has_bit}
use Rattle.planner_policies.specs.Plan.{flags_of}
use Rattle.planner_policies.proofs.Fits.{good-cycle, held-is}
use Rattle.planner_policies.proofs.Waiting.{valid-held, waits-is}
use Rattle.planner_policies.proofs.laws.pending_slots.Goals as goal

pub returns-clause-before : goal.returns-clause-before
returns-clause-before c = λ plan n well valid none slot.
    let law = c.waiting_slots.ensures.before plan.placed (flags_of plan) plan.from n (has_bit plan.pending) well
    (valid-held plan.placed plan.from plan.pending valid) (λ m less. good-cycle plan n m none less) slot in
    (λ waiting. law.0 (held-is plan n slot ∙ waiting), λ has. sym (held-is plan n slot) ∙ law.1 has)

pub returns-clause-within : goal.returns-clause-within
returns-clause-within c = λ plan n well valid none slot.
    let law = c.waiting_slots.ensures.within plan.placed (flags_of plan) plan.from n (has_bit plan.pending) well
    (valid-held plan.placed plan.from plan.pending valid) (λ m less. good-cycle plan n m none less) slot in
    (λ waiting. law.0 (waits-is plan n slot ∙ waiting), λ has. sym (waits-is plan n slot) ∙ law.1 has)
