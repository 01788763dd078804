use Rattle.std.proofs.Common.{◌≡◌, List, [], ◌∷◌, sym, subst, ap, ◌∙◌}
use Rattle.requirement_table.specs.declared.entries.Placed.{Placed}
use Rattle.planner_policies.specs.Plan.{IsValid}
use Rattle.planner_policies.specs.declared.state.PlanState.{PlanState}
use Rattle.master_core.specs.Kept.{state_after}
use Rattle.kept_run.specs.Progress.{AreNodesReady, IsUnderWay}
use Rattle.replay_run.specs.Run.{setting_of}
use Rattle.replay_run.proofs.Shared.{owner-of}
use Rattle.trace_audit.specs.Ahead.{AreStepsAhead}
use Rattle.trace_audit.specs.States.{KeepsStates}
use Rattle.trace_audit.proofs.Settling.{keeps-first}
use Rattle.trace_audit.proofs.rerun.Rerun.begin.Goals as goal

pub returns-clause-again : goal.returns-clause-again
returns-clause-again c =
    let system = c.args.system.now in
    let setting = setting_of system c.args.requests.now in
    let master = c.in_ok-master.master in
    let history = c.in_ok-master.ensures.history in
    let asynchronous = c.requests_of_owners.ensures.asynchronous system.owners c.args.requests.now c.requires.system.are_owners
    (λ k d within. owner-of system.owners _ (c.requires.requests.each k d within).owned) in
    let placed : master.placed ≡ [] = c.in_ok-master.ensures.placed in
    let first : c.state.result ≡ state_after master.rules [] = c.state.ensures.state ∙ ap (state_after master.rules) history in
    let valid : IsValid [] (state_after master.rules []).cycle (state_after master.rules []).pending =
    subst (λ (s : PlanState). IsValid [] s.cycle s.pending) first
    (subst (λ (p : List Placed). IsValid p c.state.result.cycle c.state.result.pending) placed c.state.ensures.valid) in
    record {
      same_rules = c.in_ok-master.ensures.rules;
      keeps = c.in_ok-master.ensures.keeps;
      way = record {
        known = record {
          known = c.requires.system.layout;
          same_window = c.requires.system.same_window;
          same_slots = c.requires.system.same_slots;
          asynchronous = asynchronous;
        };
        under_way = subst (λ h. IsUnderWay setting h []) (sym history) (c.beginning.ensures.under_way setting);
        ready = subst (λ h. AreNodesReady setting h [] c.in_ok-nodes.nodes) (sym history) c.in_ok-nodes.ensures.ready;
      };
      states = subst (λ h. KeepsStates master.rules h master.placed c.in_ok-states.states) (sym history)
          (subst (λ p. KeepsStates master.rules [] p c.in_ok-states.states) (sym placed)
          (keeps-first master.rules c.in_ok-states.states
          (c.in_ok-states.ensures.since ∙ ap (λ s. s.cycle) first)
          (c.in_ok-states.ensures.one ∙ ap (λ s. s ∷ []) first) valid));
    }

pub returns-clause-ahead : goal.returns-clause-ahead
returns-clause-ahead c =
    subst (λ h. AreStepsAhead c.args.steps.now h c.of-ahead.result) (sym c.in_ok-master.ensures.history) c.of-ahead.ensures.ahead
