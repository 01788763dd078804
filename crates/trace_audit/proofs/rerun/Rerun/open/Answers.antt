use Rattle.std.proofs.Common.{◌≡◌, ◌++◌, ◌∷◌, [], refl, sym, ap, ◌∙◌, subst}
use Rattle.cycle_engine.specs.Cycle.{cycle_of}
use Rattle.planner_policies.specs.Plan.{IsValid}
use Rattle.planner_policies.specs.declared.state.PlanState.{PlanState}
use Rattle.master_core.specs.Kept.{state_after}
use Rattle.master_core.specs.Orders.{IsOrderFor}
use Rattle.master_core.specs.declared.event.Event.TheVariants.{Open}
use Rattle.replay_run.proofs.Shared.{ran-by}
use Rattle.trace_audit.specs.States.{KeepsStates}
use Rattle.trace_audit.proofs.Bringing.{opened-with}
use Rattle.trace_audit.proofs.Rows.{TraceLaws}
use Rattle.trace_audit.proofs.Settling.{keeps-opened}
use Rattle.trace_audit.proofs.rerun.Rerun.open.Goals as goal

pub returns-clause-opened : goal.returns-clause-opened
returns-clause-opened c = λ system requests trace again.
    let laws : TraceLaws = record {
      under_way = c.legal_runs.ensures.under_way;
      front = c.legal_runs.ensures.front;
      started = λ setting history trace known way cycle. c.frames_by_cycle.ensures.frames trace (cycle_of setting.layout)
          (c.triggers_count_cycles.ensures.counted setting history trace known way) cycle;
    } in
    let old = c.args.self.now in
    let order = c.open-order.result in
    let master = c.open-order.new.self in
    let event = Open order.cycle order.mask in
    let rules : master.rules ≡ old.master.rules = c.open-order.ensures.rules ∙ c.in_ok-reserve.ensures.rules in
    let history : master.history ≡ old.master.history ++ event ∷ [] =
    c.open-order.ensures.event ∙ ap (λ h. h ++ event ∷ []) c.in_ok-reserve.ensures.history in
    let keeps : master.keeps ≡ old.master.keeps = c.open-order.ensures.keeps ∙ c.in_ok-reserve.ensures.keeps in
    let placed : master.placed ≡ old.master.placed = c.open-order.ensures.placed ∙ c.in_ok-reserve.ensures.placed in
    let ordered : IsOrderFor system.rules old.master.history order =
    subst (λ r. IsOrderFor r old.master.history order) (c.in_ok-reserve.ensures.rules ∙ again.same_rules)
    (subst (λ h. IsOrderFor c.reserve.new.self.rules h order) c.in_ok-reserve.ensures.history c.open-order.ensures.order) in
    let state : c.state.result ≡ state_after old.master.rules (old.master.history ++ event ∷ []) =
    c.state.ensures.state ∙ ap (λ r. state_after r master.history) rules ∙ ap (state_after old.master.rules) history in
    let valid = subst (λ (s : PlanState). IsValid old.master.placed s.cycle s.pending) state
    (subst (λ p. IsValid p c.state.result.cycle c.state.result.pending) placed c.state.ensures.valid) in
    let kept = keeps-opened old.master.rules old.master.history order.cycle order.mask old.master.placed old.states c.push.new.self
    c.push.ensures.since (c.in_ok-push.ensures.more ∙ ap (λ s. old.states.before.items ++ s ∷ []) state) valid again.states in
    let states : KeepsStates master.rules master.history master.placed c.push.new.self =
    subst (λ p. KeepsStates master.rules master.history p c.push.new.self) (sym placed)
    (subst (λ h. KeepsStates master.rules h old.master.placed c.push.new.self) (sym history)
    (subst (λ r. KeepsStates r (old.master.history ++ event ∷ []) old.master.placed c.push.new.self) (sym rules) kept)) in
    opened-with system requests trace old (record {
      master = master;
      nodes = c.run_cycle_in.new.nodes;
      states = c.push.new.self;
      ahead = old.ahead;
      width = order.l;
      sent = c.run_cycle_in.new.segment;
    }) again
    laws
    (record { before = c.orders.ensures.before; same_offers = c.cycles_run.ensures.same_offers; under_way = c.cycles_run.ensures.under_way; ready = c.cycles_run.ensures.ready })
    order ordered
    (ran-by order c.run_cycle_in.new.nodes c.run_cycle_in.new.segment c.reserve_for.new.self old.nodes
    c.reserve_for.ensures.layout c.reserve_for.ensures.same
    (record {
      layout = c.run_cycle_in.ensures.layout;
      heard = c.run_cycle_in.ensures.heard;
      runs = c.run_cycle_in.ensures.runs;
      stand = c.run_cycle_in.ensures.stand;
    }))
    refl rules keeps history states
