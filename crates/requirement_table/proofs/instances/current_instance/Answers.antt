use Rattle.std.proofs.Common.{◌+◌, ◌-◌, arith}
use Rattle.std.proofs.lemmas.Grind.{common_steps}
use Rattle.requirement_table.specs.Instance.{release_of}
use Rattle.requirement_table.proofs.Latest.{div-since, period-parts, exists-true}
use Rattle.requirement_table.proofs.instances.current_instance.Goals as goal

pub returns-clause-each : goal.returns-clause-each
returns-clause-each c = λ k sends.
    let p = c.args.placed.now in
    let first = p.origin + p.entry.phase in
    let only = div-since first p.entry.period k c.args.cycle sends.released (omega arith) in
    let parts = period-parts (c.args.cycle - first) p.entry.period k only in
    let there = exists-true p (release_of p k) sends.exists in
    grind (arith, common_steps)
