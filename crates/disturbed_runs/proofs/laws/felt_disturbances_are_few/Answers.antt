use Rattle.std.proofs.Common.{get_or}
use Rattle.std.proofs.lemmas.List.Elements.{All-contains, Contains-get_or}
use Rattle.cycle_engine.specs.Cycle.{FitsWindow}
use Rattle.master_core.specs.Openings.{openings_of}
use Rattle.kept_run.proofs.Shared.{opened-legal}
use Rattle.disturbed_runs.specs.Disturbances.{outages_of}
use Rattle.disturbed_runs.specs.Budget.{plan_of_errors}
use Rattle.disturbed_runs.proofs.Felt.{felt-few}
use Rattle.disturbed_runs.proofs.Runs.{fits-all}
use Rattle.disturbed_runs.proofs.laws.felt_disturbances_are_few.Goals as goal

pub returns-clause-few : goal.returns-clause-few
returns-clause-few c = λ reserve late silent sends layout asks openings trace retries passive_triggers errors bytes passive disturbances waits o
    known room guarded each_once opened fit are felt has_room are_waits.
    felt-few reserve late silent sends layout known asks openings room guarded each_once trace o opened fit bytes felt.short felt.behind disturbances are
    retries passive_triggers errors passive waits felt.triggers felt.window has_room are_waits

pub returns-clause-kept : goal.returns-clause-kept
returns-clause-kept c = λ setting reserve late silent asks retries passive_triggers errors bytes passive history disturbances waits trace
    is_reserved whole forgets guarded legal traced are felt has_room are_waits.
    let plan = plan_of_errors retries passive_triggers errors bytes passive in
    let openings = openings_of history in
    let by = opened-legal setting.rules history legal in
    c.few_disturbances_are_kept.ensures.kept setting reserve late silent plan asks history (outages_of disturbances) waits trace is_reserved whole forgets guarded legal traced
    (λ k d within.
    let o = get_or openings k d in
    let is = felt k d within in
    felt-few reserve late silent setting.sends setting.layout is_reserved.known.known asks openings is_reserved.room guarded by.each_once trace o (Contains-get_or openings k d within)
    (fits-all setting is_reserved.known history legal k d within) bytes is.short is.behind disturbances are
    retries passive_triggers errors passive waits is.triggers is.window (has_room k d within) (are_waits k d within))
