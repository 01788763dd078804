use Rattle.std.proofs.Common.{◌≡◌, ◌++◌, ◌∷◌, ◌≤◌, ℕ, List, [], ap, ◌∙◌, subst, sym, arith}
use Rattle.change_protocol.specs.declared.operations.Change.{Change}
use Rattle.planner_policies.specs.declared.state.PlanState.{PlanState}
use Rattle.admission_rules.specs.declared.Rules.{Rules}
use Rattle.master_core.specs.CorePlans.{CorePlannedView, IsCorePlan}
use Rattle.master_core.specs.Cores.{IsPrunedBefore}
use Rattle.master_core.specs.declared.apart.Snapshot.{Snapshot}
use Rattle.master_core.specs.declared.event.Event.{Event}
use Rattle.master_core.specs.declared.event.Event.TheVariants.{Submit}
use Rattle.master_core.specs.History.{next_of, placed_of}
use Rattle.master_core.specs.Kept.{kept_from, kept_snapshot, state_after}
use Rattle.trace_audit.specs.States.{KeepsStates}
use Rattle.trace_audit.proofs.Settling.{can-settle, found-early, found-valid, no-answer, refused-placed, settled-from}
use Rattle.trace_audit.proofs.rerun.Rerun.ask.Goals as goal

pub kept_snapshot-requires : goal.kept_snapshot-requires
kept_snapshot-requires c =
    let old = c.args.self.now in
    let found = c.in-Some.ensures in
    let early = found-early old.master old.states c.requires.states c.args.from c.in-Some.state found.late found.found in
    let few = c.requires.few in
    record {
      valid = found-valid old.master old.states c.requires.states c.args.from c.in-Some.state found.late found.found;
      next = omega (arith, early, few);
    }

pub settle_kept-requires-clause-planned : goal.settle_kept-requires-clause-planned
settle_kept-requires-clause-planned c =
    let old = c.args.self.now in
    let found = c.in-Some.ensures in
    can-settle old.master old.states c.requires.states c.args.from c.in-Some.state found.late found.found c.args.change.now c.in-Ok.planned
    (subst (λ (s : Snapshot). IsCorePlan s c.args.change.now c.in-Ok.planned) c.in_ok-snapshot.ensures.snapshot c.in-Ok.ensures.planned)

pub returns-in_default-clause-none : goal.returns-in_default-clause-none
returns-in_default-clause-none c = λ refused verdict trail.
    let old = c.args.self.now in
    no-answer old.master.rules old.master.history old.master.placed old.states c.args.change.now c.args.from verdict trail
    c.requires.states c.in_default.ensures.none

pub returns-clause-event : goal.returns-clause-event
returns-clause-event c = λ taken.
    let old = c.args.self.now in
    let history = old.master.history in
    let found = c.in-Some.ensures in
    let planned = c.in-Ok.planned in
    let verdict = c.in_ok-verdict.verdict in
    let (trail, event) = c.in_ok-verdict.ensures.event in
    let from = settled-from old.master old.states c.requires.states c.args.from c.in-Some.state found.late found.found c.args.change.now planned
    (subst (λ (s : Snapshot). IsCorePlan s c.args.change.now planned) c.in_ok-snapshot.ensures.snapshot c.in-Ok.ensures.planned) in (
      verdict,
      trail,
      event ∙ ap (λ (f : ℕ). history ++ Submit c.args.caller planned.change f verdict trail ∷ []) from
          ∙ ap (λ (e : Change). history ++ Submit c.args.caller e c.args.from verdict trail ∷ []) c.in-Ok.ensures.planned.asked,
    )

pub returns-clause-states : goal.returns-clause-states
returns-clause-states c = λ taken.
    let old = c.args.self.now in
    let master = c.settle_kept.new.self in
    let states = c.keep_answered.new.states in
    let planned = c.in-Ok.planned in
    let verdict = c.in_ok-verdict.verdict in
    let (trail, event) = c.in_ok-verdict.ensures.event in
    let from = kept_from old.master.history planned in
    let rules = c.settle_kept.ensures.rules in
    let history : List Event = old.master.history ++ Submit c.args.caller planned.change from verdict trail ∷ [] in
    let state : c.state.result ≡ state_after old.master.rules history =
    c.state.ensures.state ∙ ap (λ (r : Rules). state_after r master.history) rules ∙ ap (state_after old.master.rules) event in
    let kept = c.in_ok-keep_answered.ensures.kept old.master.rules old.master.history c.args.caller planned.change from trail
    old.master.placed master.placed c.requires.states
    (refused-placed old.master.placed master.placed from planned.change verdict c.in_ok-verdict.ensures.placed) state c.state.ensures.valid
    (subst (λ (h : List Event). IsPrunedBefore (next_of h) (placed_of h) master.placed) event c.placed.ensures.held) in
    subst (λ (h : List Event). KeepsStates master.rules h master.placed states) (sym event)
    (subst (λ (r : Rules). KeepsStates r history master.placed states) (sym rules) kept)
