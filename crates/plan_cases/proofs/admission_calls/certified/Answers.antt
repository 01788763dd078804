use Rattle.std.proofs.Common.{sym, ◌∙◌, arith}
use Rattle.bit_sets.specs.Sets.{has_bit, most_slots}
use Rattle.bit_sets.proofs.Shared.{set_of-has_bit, set_of-same}
use Rattle.planner_policies.specs.Plan.{pending_before}
use Rattle.planner_policies.proofs.Shared.{before-first}
use Rattle.admission.specs.Verdict.{plan_from}
use Rattle.plan_cases.proofs.admission_calls.certified.Goals as goal

pub certify-requires-clause-pending : goal.certify-requires-clause-pending
certify-requires-clause-pending c =
    let plan = plan_from c.args.rules.now c.args.placed.now 0 0 in
    c.empty.ensures.number
    ∙ sym (set_of-same most_slots (pending_before plan 0) (has_bit 0) (λ slot known. before-first plan slot)
    ∙ sym (set_of-has_bit most_slots 0 (omega arith)))
