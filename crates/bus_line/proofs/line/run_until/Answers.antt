use Rattle.bus_line.proofs.Running.{Running-all}
use Rattle.bus_line.proofs.line.run_until.Goals as goal

pub returns-clause-ran : goal.returns-clause-ran
returns-clause-ran g c =
    let line = g.S.Stations.line in
    Running-all line (g.S.Stations.state c.args.stations.now) c.args.from c.args.until c.args.out.now.items (g.S.Stations.state c.loop-next.stations) c.loop-next.out.items c.loop-next.free c.loop-next.invariant.run c.in_default.ensures.next
