use Rattle.std.proofs.Common.{◌≤◌, min, vec_capacity, subst, arith}
use Rattle.std.proofs.lemmas.Result.{on_ok_weaker}
use Rattle.cycle_engine.specs.Joint.{parts_of}
use Rattle.cycle_engine.specs.Nodes.{KeepSpare, NodesView}
use Rattle.cycle_engine.proofs.Parts.{have-spare, keep-spare, states-same}
use Rattle.cycle_engine.proofs.nodes.Nodes.reserve.Goals as goal

pub returns-clause-room : goal.returns-clause-room
returns-clause-room c =
    let inside = c.self.inside in
    let more = min c.reserve-2.new.self.node.spare (vec_capacity c.reserve.new.self) in
    let first : c.args.entries ≤ vec_capacity c.reserve.new.self = omega (arith, c.in_ok-reserve.ensures.ok, c.saturating_sub-additional.ensures, c.len.ensures) in
    on_ok_weaker c.reserve-2.result
    (λ (room : c.args.entries ≤ c.reserve-2.new.self.node.spare). grind (arith, have-spare))
    c.reserve-2.ensures.room

pub returns-clause-same : goal.returns-clause-same
returns-clause-same c = grind (arith, states-same, vec_capacity)

pub returns-clause-spare : goal.returns-clause-spare
returns-clause-spare c =
    let inside = c.self.inside in
    let spare = min inside.stations.node.spare (vec_capacity inside.placed) in
    let more = min c.reserve-2.new.self.node.spare (vec_capacity c.reserve.new.self) in
    subst (λ (v : NodesView). KeepSpare v.nodes (parts_of inside.owners.items c.reserve.new.self.items more inside.count c.reserve-2.new.self.node.state)) c.self.view_is
    (keep-spare inside.owners.items inside.placed.items c.reserve.new.self.items spare more inside.count inside.stations.node.state c.reserve-2.new.self.node.state
    c.self.invariant.some (omega (arith, c.reserve.ensures.capacity, c.reserve-2.ensures.spare)))
