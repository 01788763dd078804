-- A whole run: its beginning, and what is left behind its end.
use Rattle.std.proofs.Common.{◌≡◌, ℕ, ◌+◌, ◌<◌, ◌≤◌, ◌++◌, ◌∷◌, [], List, true, false, Bool, cond, length, slice_index_or, All, Contains, refl, sym, ap, ◌∙◌, subst, arith, take, filter}
use mathlib.Core.List.{IsPrefix}
use Rattle.std.proofs.lemmas.List.Elements.{All-cons, All-nil, filter-append}
use Rattle.std.proofs.lemmas.List.{take_all, take-append-le}
use Rattle.turn_lock.specs.History.{own}
use Rattle.admission_rules.specs.declared.Rules.{Rules}
use Rattle.turn_lock.specs.declared.view.View.{View}
use Rattle.turn_lock.specs.Passes.{Facts, Known, Lock}
use Rattle.requirement_table.specs.Instance.{bytes_of}
use Rattle.cycle_engine.specs.Nodes.{IsBus, IsNumber, NodesView, left_in, states_of}
use Rattle.master_core.specs.declared.event.Event.{Event}
use Rattle.master_core.specs.History.{IsLegal, is_open, next_of}
use Rattle.kept_run.specs.Progress.{AreNodesReady, IsOnTheWay, IsUnderWay}
use Rattle.kept_run.specs.Setting.{IsSetting, Setting}
use Rattle.kept_run.specs.Served.{ForgetsEnds}
use Rattle.kept_run.proofs.Shared.{CallsBetween, Promises, bytes_of-forgets, way-called}
use Rattle.live_master.specs.Callers.{number_of}
use Rattle.live_master.specs.Passes.{IsPassOf}
use Rattle.live_run.specs.declared.crew.Operator.{Operator}
use Rattle.live_run.specs.declared.dispatching.LiveBus.{LiveBus}
use Rattle.live_run.specs.declared.frames.Run.{Run}
use Rattle.live_run.specs.declared.script.Script.{Script}
use Rattle.live_run.specs.Crew.{AreDone}
use Rattle.live_run.specs.Live.{AreFresh, HasAnswered, IsLiveRun}
use Rattle.live_run.specs.Running.{CanDispatch, IsRunning}

-- a run begins with no calls, no frames, and nodes as they were made
pub record Beginning : Type 0 where
  pub under_way : (setting : Setting) → IsUnderWay setting [] []
  pub ready : (setting : Setting) (nodes : NodesView) → nodes.layout ≡ setting.layout → setting.sends ≡ bytes_of
      → IsBus setting.layout setting.owners setting.requests [] [] 0 (states_of nodes.nodes)
      → ((number : ℕ) → number < setting.rules.nodes → IsNumber (states_of nodes.nodes) number)
      → AreNodesReady setting [] [] nodes

-- the dispatcher's pass once operators were made, and its bus, are running
pub begun : Beginning → (setting : Setting) (shared : Lock Rules) (seen : List Event) (bus : LiveBus)
    → IsSetting setting → shared.fixed ≡ setting.rules → seen ≡ [] → AreFresh setting bus.nodes → bus.trace.items ≡ [] → IsRunning setting shared seen bus
begun laws setting shared seen bus known rules none fresh empty = record {
  same_rules = rules;
  way = record {
    known = known;
    under_way = subst (λ h. IsUnderWay setting h bus.trace.items) (sym none) (subst (λ t. IsUnderWay setting [] t) (sym empty) (laws.under_way setting));
    ready = subst (λ h. AreNodesReady setting h bus.trace.items bus.nodes) (sym none) (subst (λ t. AreNodesReady setting [] t bus.nodes) (sym empty)
        (laws.ready setting bus.nodes fresh.same_layout fresh.same_bytes fresh.bus fresh.numbers));
  };
}

-- so in some setting they are
pub can_begin : Beginning → (setting : Setting) (shared : Lock Rules) (seen : List Event) (bus : LiveBus)
    → IsSetting setting → shared.fixed ≡ setting.rules → seen ≡ [] → AreFresh setting bus.nodes → bus.trace.items ≡ [] → CanDispatch shared seen bus
can_begin laws setting shared seen bus known rules none fresh empty = (setting, begun laws setting shared seen bus known rules none fresh empty)

-- operators that are done stand at the shared master
pub done-stand : (shared : Lock Rules) (scripts : List Script) (operators : List Operator) → length scripts ≡ length operators → AreDone shared scripts operators
    → (k : ℕ) (d : Operator) → k < length operators → IsPassOf shared (slice_index_or operators k d).pass
done-stand shared (s ∷ scripts) operators same done k d within = (done.each k d s within).standing
done-stand shared [] operators same done k d within = absurd (omega arith)

filter-nil-step : (e : Event) (es : List Event) (b : Bool) → is_open e ≡ b → cond b (e ∷ filter is_open es) (filter is_open es) ≡ []
    → (b ≡ false) × (filter is_open es ≡ [])
filter-nil-step e es true is none = absurd (cc)
filter-nil-step e es false is none = (refl, none)

pub all-closed : (calls : List Event) → filter is_open calls ≡ [] → All (λ call. is_open call ≡ false) calls
all-closed [] none = All-nil (λ call. is_open call ≡ false)
all-closed (e ∷ es) none =
    let parts = filter-nil-step e es (is_open e) refl none in
    All-cons (λ call. is_open call ≡ false) e es parts.0 (all-closed es parts.1)

append-cancel : (xs ys : List Event) → xs ++ ys ≡ xs → ys ≡ []
append-cancel [] ys is = is
append-cancel (x ∷ xs) ys is = append-cancel xs ys (cc)

-- a slice of a whole list, written back
pub whole : (long : ℕ) (xs rest : List Operator) → long ≡ length xs → take long (xs ++ rest) ≡ xs
whole long xs rest same = take-append-le long xs rest (omega arith) ∙ take_all long xs (omega arith)

-- the numbers of operators that are done are at most that of the scripts
pub done-few : (shared : Lock Rules) (scripts : List Script) (operators : List Operator) → length scripts ≡ length operators → AreDone shared scripts operators
    → All (λ (o : Operator). o.pass.view.number ≤ length scripts) operators
done-few shared (s ∷ scripts) operators same done k d within = let is = (done.each k d s within).number_is in omega arith
done-few shared [] operators same done k d within = absurd (omega arith)

-- between what the dispatcher saw last and the history, nothing was opened
pub closed-behind : (seen later whole_history mine : List Event) → seen ++ later ≡ whole_history → filter is_open seen ≡ mine
    → filter is_open whole_history ≡ mine → All (λ call. is_open call ≡ false) later
closed-behind seen later whole_history mine parts before after =
    all-closed later (append-cancel (filter is_open seen) (filter is_open later)
    (sym (filter-append is_open seen later) ∙ (ap (λ (l : List Event). filter is_open l) parts ∙ (after ∙ sym before))))

-- the laws that a whole run goes by
pub record Laws : Type 0 where
  pub between : CallsBetween
  pub promises : Promises
  pub openings : (v : View Event Rules) → Facts number_of v → v.number ≡ 0 → filter is_open v.seen ≡ v.mine
  pub cycles : (v : View Event Rules) → Facts number_of v → v.number ≡ 0 → next_of v.seen ≡ next_of v.mine

answered-all : (v : View Event Rules) (shared : Lock Rules) (scripts : List Script) (operators : List Operator) → length scripts ≡ length operators
    → AreDone shared scripts operators
    → All (λ (o : Operator). Contains v.ended (o.pass.view.number, o.pass.view.mine)) operators
    → All (λ (o : Operator). o.answered ≡ true) operators → Facts number_of v
    → (k : ℕ) (d : Script) → k < length scripts → HasAnswered v (k + 1) (slice_index_or scripts k d).acts
answered-all v shared scripts [] same done ended answered facts k d within = absurd (omega arith)
answered-all v shared scripts (o ∷ os) same done ended answered facts k d within =
    let operator = slice_index_or (o ∷ os) k o in
    let calls = operator.pass.view.mine in
    let less : k < length (o ∷ os) = omega arith in
    let one = done.each k o d less in
    record {
      calls = calls;
      under = subst (λ n. Contains v.ended (n, calls)) one.number_is (ended k o less);
      all = subst (λ n. own number_of n v.seen ≡ calls) one.number_is (facts.ended_are _ _ (ended k o less)).0;
      answers = one.answers (answered k o less);
    }

-- what is left once the operators were retired
pub left-behind : Laws → (setting : Setting) (shared : Lock Rules) (cycles : ℕ) (scripts : List Script) (operators : List Operator)
    (before after : Known Event Rules) (bus : LiveBus) (run : Run)
    → IsSetting setting → shared.fixed ≡ setting.rules → IsRunning setting shared before.view.seen bus
    → IsPassOf shared before → IsPassOf shared after → before.view.number ≡ 0 → after.view.number ≡ before.view.number
    → after.view.mine ≡ before.view.mine → IsPrefix before.view.seen after.view.seen → next_of before.view.mine ≡ cycles
    → length scripts ≡ length operators → AreDone shared scripts operators
    → All (λ (o : Operator). Contains after.view.ended (o.pass.view.number, o.pass.view.mine)) operators
    → All (λ (o : Operator). o.answered ≡ true) operators
    → after.view.made ≡ length scripts → after.view.out ≡ 0
    → All (λ (entry : ℕ × List Event). entry.0 ≤ length scripts) after.view.ended
    → run.trace ≡ bus.trace.items → run.left ≡ left_in (states_of bus.nodes.nodes)
    → IsLiveRun setting cycles scripts after.view run
left-behind laws setting shared cycles scripts operators before after bus run known rules running stands retired zeroth number mine begins count same done ended answered made out few trace left =
    let last = number ∙ zeroth in
    let later = begins.0 in
    let seen = before.view.seen in
    let openings = laws.openings after.view retired.facts last in
    let closed = closed-behind seen later after.view.seen after.view.mine begins.1 (laws.openings before.view stands.facts zeroth ∙ sym mine) openings in
    let whole : IsLegal setting.rules after.view.seen = subst (λ r. IsLegal r after.view.seen) rules retired.legal in
    let legal : IsLegal setting.rules (seen ++ later) = subst (λ h. IsLegal setting.rules h) (sym begins.1) whole in
    let way : IsOnTheWay setting after.view.seen run.trace bus.nodes =
    subst (λ h. IsOnTheWay setting h run.trace bus.nodes) begins.1 (subst (λ t. IsOnTheWay setting (seen ++ later) t bus.nodes) (sym trace)
    (way-called laws.between setting seen later bus.trace.items bus.nodes closed legal running.way)) in
    let counted = retired.facts.counted in
    record {
      kept = laws.promises.kept setting after.view.seen run.trace known (subst ForgetsEnds (sym way.ready.same_bytes) bytes_of-forgets) way.under_way;
      opened = laws.cycles after.view retired.facts last ∙ (ap (λ (l : List Event). next_of l) mine ∙ count);
      dispatcher = last;
      openings = openings;
      answered = answered-all after.view shared scripts operators same done ended answered retired.facts;
      others = omega arith;
      numbers = few;
      left = record { nodes = bus.nodes; ready = way.ready; left = left };
    }
