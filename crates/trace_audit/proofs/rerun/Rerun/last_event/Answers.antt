use Rattle.std.proofs.Common.{subst, sym}
use Rattle.bus_trace.specs.Logged.{IsEventNear}
use Rattle.replay_run.proofs.Shared.{some-event}
use Rattle.trace_audit.proofs.rerun.Rerun.last_event.Goals as goal

pub last-requires : goal.last-requires
last-requires c =
    let near = c.requires.near in
    record { some = some-event c.args.self.now.master.history near.event near.ends.before near.ends.is }

pub returns : goal.returns
returns c =
    let near = c.requires.near in
    record {
      last = λ event ends. c.last.ensures.last ends.before event ends.is;
      near = subst IsEventNear (sym (c.last.ensures.last near.ends.before near.event near.ends.is)) near.near;
    }
