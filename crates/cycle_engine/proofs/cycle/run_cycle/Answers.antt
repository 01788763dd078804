use Rattle.std.proofs.Common.{List, subst, ◌*◌, ◌++◌, ◌+◌}
use Rattle.cycle_layout.specs.Layout.{CycleLayout}
use Rattle.requirement_table.specs.Instance.{bytes_of}
use Rattle.bus_line.specs.Trace.{Follows}
use Rattle.node_model.specs.Node.{NodeState}
use Rattle.cycle_engine.specs.Nodes.{IsBefore, IsBus, learnt_by, opening_of, states_of}
use Rattle.cycle_engine.specs.Offered.{offered_in}
use Rattle.cycle_engine.proofs.cycle.run_cycle.Goals as goal

pub returns-clause-runs : goal.returns-clause-runs
returns-clause-runs c = λ owners requests placed past.
    let order = c.args.order.now in
    let segment = c.run_cycle_in.new.segment in
    let Runs : CycleLayout → List NodeState → Type 0 = λ layout nodes. IsBefore layout owners requests placed past order (learnt_by order.learned nodes)
    → Follows (offered_in bytes_of layout requests (opening_of order placed)) past (order.cycle * layout.cycle) ((order.cycle + 1) * layout.cycle) segment in
    subst (λ layout. Runs layout (states_of c.args.nodes.now.nodes)) c.reserve_for.ensures.layout
    (subst (λ nodes. Runs c.reserve_for.new.self.layout nodes) c.reserve_for.ensures.same (c.run_cycle_in.ensures.runs owners requests placed past))

pub returns-clause-stand : goal.returns-clause-stand
returns-clause-stand c = λ owners requests placed past.
    let order = c.args.order.now in
    let segment = c.run_cycle_in.new.segment in
    let Stand : CycleLayout → List NodeState → Type 0 = λ layout nodes. IsBefore layout owners requests placed past order (learnt_by order.learned nodes)
    → IsBus layout owners requests placed (past ++ segment) (order.cycle + 1) (states_of c.run_cycle_in.new.nodes.nodes) in
    subst (λ layout. Stand layout (states_of c.args.nodes.now.nodes)) c.reserve_for.ensures.layout
    (subst (λ nodes. Stand c.reserve_for.new.self.layout nodes) c.reserve_for.ensures.same (c.run_cycle_in.ensures.stand owners requests placed past))
