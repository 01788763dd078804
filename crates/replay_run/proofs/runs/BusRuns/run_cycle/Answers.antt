use Rattle.std.proofs.Common.{◌++◌, ◌∷◌, [], ap, map, ◌∙◌}
use Rattle.master_core.specs.Calls.{call_of, opens}
use Rattle.replay_run.proofs.Cutting.{bus-on, can-go, still-can, still-on}
use Rattle.replay_run.proofs.runs.BusRuns.run_cycle.Goals as goal

pub run_next-requires-clause-going : goal.run_next-requires-clause-going
run_next-requires-clause-going c =
    still-can c.args.self.now c.make_ready.new.self c.make_ready.ensures.still (can-go c.args.self.now c.requires.can)

pub returns-clause-on : goal.returns-clause-on
returns-clause-on c =
    let run = c.args.self.now in
    let after = c.run_next.new.self in
    let still = c.make_ready.ensures.still in
    bus-on run after after.segment (opens ∷ []) (still-on run c.make_ready.new.self after after.segment still c.run_next.ensures.on)
    (c.run_next.ensures.calls ∙ ap (λ h. map call_of h ++ opens ∷ []) still.same) (c.run_next.ensures.kept ∙ still.kept)
