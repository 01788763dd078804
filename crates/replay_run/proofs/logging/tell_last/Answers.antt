use Rattle.std.proofs.Common.{subst, sym}
use Rattle.std.proofs.lemmas.Result.{on_err_weaker, on_ok_weaker}
use Rattle.bus_trace.specs.EventRows.{HasItsFrames, rows_of_event}
use Rattle.bus_trace.specs.Logged.{IsEventNear}
use Rattle.replay_run.proofs.Shared.{some-event}
use Rattle.replay_run.proofs.logging.tell_last.Goals as goal

pub last-requires : goal.last-requires
last-requires g c = record { some = some-event c.args.master.now.history c.requires.last.event c.requires.last.ends.before c.requires.last.ends.is }

pub hear-requires-clause-near : goal.hear-requires-clause-near
hear-requires-clause-near g c =
    let last = c.requires.last in
    subst IsEventNear (sym (c.last.ensures.last last.ends.before last.event last.ends.is)) last.near

pub hear-requires-clause-frames : goal.hear-requires-clause-frames
hear-requires-clause-frames g c =
    let last = c.requires.last in
    subst (λ event. HasItsFrames event c.args.frames.now) (sym (c.last.ensures.last last.ends.before last.event last.ends.is)) last.its

pub returns-clause-heard : goal.returns-clause-heard
returns-clause-heard g c =
    on_ok_weaker c.hear.result
    (λ heard event ends.
    subst (λ one. g.L.Listener.heard c.args.listener.now (rows_of_event one c.args.frames.now) c.hear.new.self)
    (c.last.ensures.last ends.before event ends.is) heard)
    c.hear.ensures.heard

pub returns-clause-broke : goal.returns-clause-broke
returns-clause-broke g c =
    on_err_weaker c.hear.result
    (λ broke event ends.
    subst (λ one. g.L.Listener.broke c.args.listener.now (rows_of_event one c.args.frames.now) c.hear.new.self)
    (c.last.ensures.last ends.before event ends.is) broke)
    c.hear.ensures.broke
