use Rattle.std.proofs.Common.{[], ◌∷◌, sym, ap, ◌∙◌, arith}
use Rattle.std.specs.Prelude.{fold}
use Rattle.std.proofs.Math.Nat.{add-mul}
use Rattle.node_model.specs.Node.{after_hearing}
use Rattle.cycle_engine.specs.Nodes.{heard_by}
use Rattle.cycle_engine.proofs.Announced.{heard-twice}
use Rattle.cycle_engine.proofs.One.{state-heard}
use Rattle.cycle_engine.proofs.joint.run.Goals as goal

pub run_window-requires-clause-window : goal.run_window-requires-clause-window
run_window-requires-clause-window c = grind arith

pub run_window-requires-clause-room : goal.run_window-requires-clause-room
run_window-requires-clause-room c = grind (arith, add-mul)

pub returns-clause-heard : goal.returns-clause-heard
returns-clause-heard c =
    let part = c.run_up_to_window-from.ensures.before_window in
    let sent = c.run_window.ensures.sent in
    let nodes = c.args.stations.now.node.state ∷ [] in
    state-heard c.run_window.new.self.node.state (fold after_hearing c.args.stations.now.node.state c.run_window.new.out.items)
    (sent.heard
    ∙ ap (heard_by sent.frames) part.heard
    ∙ heard-twice c.run_up_to_window-from.new.frames.items sent.frames nodes
    ∙ ap (λ fs. heard_by fs nodes) (sym sent.appended))

pub returns-clause-runs : goal.returns-clause-runs
returns-clause-runs c = grind arith
