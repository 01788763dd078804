use Rattle.std.proofs.Common.{get_or, ◌++◌}
use Rattle.master_core.specs.Openings.{openings_of}
use Rattle.disturbed_runs.proofs.Counted.{few-budget, few-keeps}
use Rattle.disturbed_runs.proofs.laws.few_disturbances_are_kept.Goals as goal

pub returns-clause-kept : goal.returns-clause-kept
returns-clause-kept c = λ setting reserve late silent plan asks history outages waits trace is_reserved whole forgets guarded legal traced few.
    c.disturbed_runs_are_kept.ensures.kept setting reserve late silent asks history (outages ++ waits) trace is_reserved whole forgets guarded legal traced
    (λ k d within. few-budget setting.layout reserve late silent plan outages waits (get_or (openings_of history) k d) (few k d within))

pub returns-clause-cycle : goal.returns-clause-cycle
returns-clause-cycle c = few-keeps
