-- How an event that is done again brings a run on.
use Rattle.std.proofs.Common.{◌≡◌, ◌++◌, ℕ, false, List, [], ◌∷◌, All, refl, sym, ap, ◌∙◌, subst, append-nil}
use Rattle.std.specs.Prelude.{Err, IfOk, IfSome, None, Ok, OnOk, Option, Result, Some}
use Rattle.std.proofs.lemmas.List.Elements.{All-cons, All-nil}
use Rattle.can_frame.specs.declared.data_frame.TimedFrame.{TimedFrame}
use Rattle.requirement_table.specs.Opening.{width_of}
use Rattle.bit_sets.specs.Sets.{has_bit}
use Rattle.requirement_table.specs.Table.{width_in}
use Rattle.requirement_table.specs.declared.entries.Order.{Order}
use Rattle.async_window.specs.declared.request.Request.{Request}
use Rattle.master_core.specs.declared.event.Event.{Event}
use Rattle.master_core.specs.declared.event.Event.TheVariants.{Open}
use Rattle.master_core.specs.History.{IsLegal, is_open, placed_of}
use Rattle.master_core.specs.Orders.{IsOrderFor}
use Rattle.kept_run.specs.Progress.{IsOnTheWay}
use Rattle.kept_run.specs.Setting.{Setting}
use Rattle.kept_run.proofs.Shared.{CallsBetween, CyclesRun, RanOrder, way-called, way-run}
use Rattle.steps_file.specs.declared.steps.Step.{Step}
use Rattle.system_file.specs.declared.system.System.{System}
use Rattle.replay_run.specs.Run.{setting_of}
use Rattle.bus_trace.specs.EventRows.{told_at}
use Rattle.bus_trace.specs.Logged.{IsEventNear}
use Rattle.bus_trace.specs.LogRows.{events_told}
use Rattle.log_reader.specs.declared.row.LogRow.{LogRow}
use Rattle.trace_audit.specs.Again.{Asks, EndsNear, IsAgain, IsRerunBroughtOn, IsRerunOpened}
use Rattle.trace_audit.specs.Ahead.{AreStepsAhead}
use Rattle.trace_audit.specs.States.{KeepsStates}
use Rattle.trace_audit.specs.declared.rerun.Rerun.{Rerun}
use Rattle.trace_audit.proofs.Rows.{TraceLaws, called-told, opened-told}
use Rattle.trace_audit.proofs.Taking.{ahead-opened}

module _ (system : System) (steps : List Step) (requests : List Request) (trace : List TimedFrame) (old new : Rerun) (line : LogRow)
    (again : IsAgain system requests trace old) where
  abbrev setting : Setting
  setting = setting_of system requests

  -- a change or a look
  pub called-on : CallsBetween → (event : Event) → is_open event ≡ false → IsEventNear event → Asks steps old.master.history line event
      → new.master.rules ≡ old.master.rules → new.master.keeps ≡ old.master.keeps → new.nodes ≡ old.nodes
      → new.master.history ≡ old.master.history ++ event ∷ [] → IsLegal new.master.rules new.master.history
      → KeepsStates new.master.rules new.master.history new.master.placed new.states
      → AreStepsAhead steps (old.master.history ++ event ∷ []) new.ahead
      → IsRerunBroughtOn system steps requests trace old line new
  called-on laws event closed near asks rules keeps nodes history legal states ahead =
      let same_rules : new.master.rules ≡ system.rules = rules ∙ again.same_rules in
      let whole : IsLegal system.rules (old.master.history ++ event ∷ []) =
      subst (IsLegal system.rules) history (subst (λ r. IsLegal r new.master.history) same_rules legal) in
      let one : All (λ e. is_open e ≡ false) (event ∷ []) =
      All-cons (λ e. is_open e ≡ false) event [] closed (All-nil (λ e. is_open e ≡ false)) in
      let way = way-called laws setting old.master.history (event ∷ []) trace old.nodes one whole again.way in
      let now : IsAgain system requests trace new = record {
        same_rules = same_rules;
        keeps = keeps ∙ again.keeps;
        way = subst (λ n. IsOnTheWay setting new.master.history trace n) (sym nodes)
            (subst (λ h. IsOnTheWay setting h trace old.nodes) (sym history) way);
        states = states;
      } in
      record {
        event = event;
        asks = asks;
        near = near;
        history = history;
        frames = [];
        again = subst (λ t. IsAgain system requests t new) (sym (append-nil trace)) now;
        ahead = subst (λ h. AreStepsAhead steps h new.ahead) (sym history) ahead;
        told = ap (λ t. events_told t [] new.master.history) (append-nil trace) ∙ ap (events_told trace []) history
            ∙ called-told trace old.master.history event new.width new.sent closed;
      }

module _ (system : System) (requests : List Request) (trace : List TimedFrame) (old new : Rerun)
    (again : IsAgain system requests trace old) where
  -- a cycle that was opened and run by the master's order
  pub opened-with : TraceLaws → CyclesRun → (order : Order) → IsOrderFor system.rules old.master.history order
      → RanOrder order old.nodes new.nodes new.sent → new.width ≡ order.l → new.master.rules ≡ old.master.rules
      → new.master.keeps ≡ old.master.keeps
      → new.master.history ≡ old.master.history ++ Open order.cycle order.mask ∷ []
      → KeepsStates new.master.rules new.master.history new.master.placed new.states
      → IsRerunOpened system requests trace old new
  opened-with laws runs order ordered did same rules keeps history states =
      let setting : Setting = setting_of system requests in
      let way = way-run runs setting old.master.history trace new.sent old.nodes new.nodes order ordered did again.way in
      let width : width_of (record { cycle = order.cycle; mask = order.mask; placed = placed_of old.master.history }) ≡ new.width =
      ap (λ c. width_in (placed_of old.master.history) c (has_bit order.mask)) ordered.is.cycle ∙ sym ordered.is.window ∙ sym same in
      let told = opened-told laws setting again.way.known old.master.history trace again.way.under_way order.cycle order.mask new.sent
      way.under_way ordered.is.cycle in
      record {
        cycle = order.cycle;
        mask = order.mask;
        history = history;
        again = record {
          same_rules = rules ∙ again.same_rules;
          keeps = keeps ∙ again.keeps;
          way = subst (λ h. IsOnTheWay setting h (trace ++ new.sent) new.nodes) (sym history) way;
          states = states;
        };
        told = ap (events_told (trace ++ new.sent) []) history ∙ told
            ∙ ap (λ w. events_told trace [] old.master.history ++ told_at w (Open order.cycle order.mask) new.sent) width;
      }

module _ (system : System) (steps : List Step) (requests : List Request) (trace : List TimedFrame) (old new : Rerun) (line : LogRow) where
  pub opened-on : (opened : IsRerunOpened system requests trace old new)
      → Asks steps old.master.history line (Open opened.cycle opened.mask)
      → AreStepsAhead steps old.master.history old.ahead → new.ahead ≡ old.ahead
      → IsRerunBroughtOn system steps requests trace old line new
  opened-on opened asks ahead same = record {
    event = Open opened.cycle opened.mask;
    asks = asks;
    near = tt;
    history = opened.history;
    frames = new.sent;
    again = opened.again;
    ahead = subst (λ a. AreStepsAhead steps new.master.history a) (sym same)
        (subst (λ h. AreStepsAhead steps h old.ahead) (sym opened.history)
        (ahead-opened steps old.master.history old.ahead (Open opened.cycle opened.mask) (λ caller. refl) ahead));
    told = opened.told;
  }

-- the rows of the event that was done can be told
pub ends-near : (system : System) (steps : List Step) (requests : List Request) (trace : List TimedFrame) (old new : Rerun) (line : LogRow)
    → IsRerunBroughtOn system steps requests trace old line new → EndsNear new.master.history
ends-near system steps requests trace old new line on =
    record { event = on.event; ends = record { before = old.master.history; is = on.history }; near = on.near }

-- what holds of what is found
pub some-by : {X : Type 0} {P Q : X → Type 0} (found : Option X) → IfSome found P → ((x : X) → P x → Q x) → IfSome found Q
some-by None is by = tt
some-by (Some x) is by = by x is

-- what is told in three ways of what was done
pub ok-three : {A E : Type 0} (P Q R S : A → Type 0) → ((x : A) → P x → Q x → R x → S x) → (r : Result A E)
    → IfOk r P → IfOk r Q → IfOk r R → IfOk r S
ok-three P Q R S f (Ok x) p q s = f x p q s
ok-three P Q R S f (Err e) p q s = tt

-- what is told in two ways of what was done
pub ok-both : {A E : Type 0} {P Q S : Type 0} (r : Result A E) → OnOk r P → OnOk r Q → (P → Q → S) → OnOk r S
ok-both (Ok x) p q f = f p q
ok-both (Err e) p q f = tt
