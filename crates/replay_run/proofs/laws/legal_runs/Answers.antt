use Rattle.std.proofs.Common.{◌≡◌, ℕ, ◌*◌, ◌++◌, ap, ◌∙◌}
use Rattle.bus_line.specs.Trace.{started_before}
use Rattle.master_core.specs.History.{next_of}
use Rattle.replay_run.proofs.Beginnings.{front-trace}
use Rattle.replay_run.proofs.Openings.{distinct}
use Rattle.replay_run.proofs.Fronts.{cut-at}
use Rattle.replay_run.proofs.UnderWay.{is_under_way}
use Rattle.replay_run.proofs.laws.legal_runs.Goals as goal

pub returns-clause-under_way : goal.returns-clause-under_way
returns-clause-under_way c = λ setting history trace known whole legal is. is_under_way setting
    (record {
      begins = c.beginning.ensures.under_way setting;
      closed = c.calls_between.ensures.under_way setting;
      opened = λ before cycle mask past frames. c.cycles_run.ensures.opened setting before cycle mask past frames known whole;
      one_by_one = λ openings. c.trace_laws.ensures.one_by_one (setting.sends, setting.layout, setting.requests, openings);
      behind = λ openings. c.trace_laws.ensures.behind (setting.sends, setting.layout, setting.requests, openings);
    })
    known history trace legal is

pub returns-clause-front : goal.returns-clause-front
returns-clause-front c = λ setting history later trace frames known way legal is.
    let until : ℕ = next_of history * setting.layout.cycle in
    let front = front-trace setting.sends setting.layout known.known setting.requests setting.rules history later frames legal is in
    let apart = distinct _ _ (c.opened_cycles.ensures.cycles setting.rules history way.legal) in
    let same : started_before until frames ≡ trace =
    c.one_can_trace.ensures.only_one setting.sends setting.layout setting.requests _ _ (started_before until frames) trace known.known known.asynchronous apart front way.can_trace in
    let cut = cut-at until frames is.ordered.apart in
    (cut.later, cut.all ∙ ap (λ l. l ++ cut.later) same, cut.after)

pub returns-clause-cut : goal.returns-clause-cut
returns-clause-cut c = λ setting history later frames known legal is.
    front-trace setting.sends setting.layout known.known setting.requests setting.rules history later frames legal is
