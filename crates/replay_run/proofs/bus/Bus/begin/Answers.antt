use Rattle.std.proofs.Common.{refl, subst, sym, ◌∙◌}
use Rattle.replay_run.specs.Run.{setting_of}
use Rattle.replay_run.specs.Progress.{KeepsFrames}
use Rattle.replay_run.proofs.Going.{begins-going}
use Rattle.replay_run.proofs.bus.Bus.begin.Goals as goal

pub returns-clause-going : goal.returns-clause-going
returns-clause-going c =
    begins-going (setting_of c.args.system.now c.args.requests.now) _ c.in_ranges.ensures.setting
    (c.beginning.ensures.under_way (setting_of c.args.system.now c.args.requests.now)) c.in_ok-fresh_nodes.ensures.ready
    c.in_ok-fresh_master.ensures.rules c.in_ok-fresh_master.ensures.history
    (subst (KeepsFrames c.kept_frames.result) c.new-2.ensures.items c.kept_frames.ensures.frames) (c.in_ok-fresh_master.ensures.keeps ∙ sym c.kept_frames.ensures.kept) refl
