use Rattle.std.proofs.Common.{◌++◌, ◌∷◌, [], rules, subst}
use Rattle.master_core.specs.Calls.{opens}
use Rattle.replay_run.specs.Runs.{HearsLast}
use Rattle.replay_run.proofs.Cutting.{can-run, cut-after, cut-before, heard-on}
use Rattle.replay_run.proofs.logging.open_next.Goals as goal

pub run_cycle-requires-clause-can : goal.run_cycle-requires-clause-can
run_cycle-requires-clause-can g c = can-run g.R.Runs.goes g.L.Listener.heard c.args.run.now c.args.listener.now c.requires.ready

pub returns-in_err-run_cycle-clause-stops : goal.returns-in_err-run_cycle-clause-stops
returns-in_err-run_cycle-clause-stops g c =
    let cut = cut-before g.R.Runs.goes g.R.Runs.keeps g.met.R.Runs.going_keeps g.L.Listener.heard g.L.Listener.broke c.args.run.now (opens ∷ []) c.args.listener.now in
    search (rules, cut)

pub returns-in_err-tell_last-clause-stops : goal.returns-in_err-tell_last-clause-stops
returns-in_err-tell_last-clause-stops g c =
    let told = c.args.listener.now in
    let now = c.tell_last.new.listener in
    let after = c.run_cycle.new.self in
    let cut = cut-after g.R.Runs.goes g.R.Runs.keeps g.met.R.Runs.going_keeps g.L.Listener.heard g.L.Listener.broke g.met.L.Listener.broke_later
    c.args.run.now after (g.R.Runs.bus after).master.history (g.R.Runs.frames after) told now (opens ∷ []) c.in_ok-run_cycle.ensures.on
    (subst (λ l. HearsLast g.L.Listener.broke (g.R.Runs.bus after).master.history l told now) c.frames.ensures.frames
    (subst (λ b. HearsLast g.L.Listener.broke b.master.history c.frames.result.now told now) c.bus.ensures.bus c.in_err-tell_last.ensures.broke)) in
    search (rules, cut)

pub returns-clause-goes_on : goal.returns-clause-goes_on
returns-clause-goes_on g c =
    let told = c.args.listener.now in
    let now = c.tell_last.new.listener in
    let after = c.run_cycle.new.self in
    heard-on g.R.Runs.goes g.L.Listener.heard g.met.L.Listener.more c.args.run.now after c.settle.new.self
    (g.R.Runs.bus after).master.history (g.R.Runs.frames after) told now (opens ∷ []) c.in_ok-run_cycle.ensures.on
    (subst (λ l. HearsLast g.L.Listener.heard (g.R.Runs.bus after).master.history l told now) c.frames.ensures.frames
    (subst (λ b. HearsLast g.L.Listener.heard b.master.history c.frames.result.now told now) c.bus.ensures.bus c.in_ok-tell_last.ensures.heard))
    c.settle.ensures.still

pub settle-requires : goal.settle-requires
settle-requires g c =
    let can = can-run g.R.Runs.goes g.L.Listener.heard c.args.run.now c.args.listener.now c.requires.ready in
    let on = c.in_ok-run_cycle.ensures.on can.0 can.1 can.2 can.3 in
    record { can = (can.0, can.1 ++ on.event ∷ [], can.2 ++ g.R.Runs.frames c.run_cycle.new.self, on.goes) }
