use Rattle.std.proofs.Common.{sym, ◌∙◌, subst}
use Rattle.requirement_table.specs.Instance.{bytes_of}
use Rattle.master_core.specs.History.{next_of}
use Rattle.master_core.specs.Openings.{openings_of}
use Rattle.cycle_engine.specs.Offered.{IsCanTrace}
use Rattle.master_core.proofs.Shared.{one-history}
use Rattle.replay_run.proofs.laws.one_run.Goals as goal

pub returns-clause-one_history : goal.returns-clause-one_history
returns-clause-one_history c = λ rules steps one other plain plain2 answers answers2.
    one-history (record { same = c.one_verdict.ensures.same }) rules one other (answers ∙ sym answers2) plain plain2

pub returns-clause-one_trace : goal.returns-clause-one_trace
returns-clause-one_trace c = λ system steps requests one other trace second run run2.
    let same = one-history (record { same = c.one_verdict.ensures.same }) system.rules one other (run.answers ∙ sym run2.answers) run.plain run2.plain in
    run2.kept.only_trace trace (subst (λ h. IsCanTrace bytes_of system.layout requests (openings_of h) (next_of h) trace) same run.kept.can_trace)
