-- What the dispatcher has seen once it got the turn: calls that open no cycle, and its own opening.
use Rattle.std.proofs.Common.{◌≡◌, ℕ, ◌++◌, ◌∷◌, [], List, All, OnErr, Result, Ok, Err, false, length, append_assoc, refl, sym, ap, ◌∙◌, subst, arith, filter}
use Rattle.std.proofs.lemmas.List.Elements.{All-append}
use Rattle.std.proofs.lemmas.List.Sums.{length-filter}
use Rattle.admission_rules.specs.declared.Rules.{Rules}
use Rattle.turn_lock.specs.declared.view.View.{View}
use Rattle.turn_lock.specs.Passes.{Facts, Known, Lock}
use Rattle.requirement_table.specs.declared.entries.Order.{Order}
use Rattle.master_core.specs.declared.event.Event.{Event}
use Rattle.master_core.specs.declared.event.Event.TheVariants.{Open}
use Rattle.master_core.specs.History.{IsLegal, is_open, next_of}
use Rattle.master_core.specs.Orders.{IsOrderFor}
use Rattle.kept_run.proofs.Shared.{CallsBetween, way-called, way-same}
use Rattle.kept_run.specs.Progress.{IsOnTheWay}
use Rattle.kept_run.specs.Setting.{Setting}
use Rattle.live_master.specs.Callers.{number_of}
use Rattle.live_master.specs.Calls.{AfterWaiting, GaveBack}
use Rattle.live_master.specs.Within.{OpenedWithin}
use Rattle.live_master.specs.declared.within.FoundOpening.TheVariants as opening
use Rattle.live_run.specs.declared.dispatching.LiveBus.{LiveBus}
use Rattle.live_run.specs.Running.{CanDispatch, HasOpened, HasSeen, IsRunning, IsSameBus, KeepsPasses}
use Rattle.live_run.proofs.Runs.{all-closed, closed-behind}

-- what holds whatever a call answers holds where it answers a fault
pub on_err : {X E : Type 0} (result : Result X E) (P : Type 0) → P → OnErr result P
on_err (Ok x) P holds = tt
on_err (Err e) P holds = holds

nil-of_length : (xs : List Event) → length xs ≡ 0 → xs ≡ []
nil-of_length [] none = refl
nil-of_length (x ∷ xs) none = absurd (omega arith)

closed-none : (calls : List Event) → next_of calls ≡ 0 → All (λ call. is_open call ≡ false) calls
closed-none calls none = all-closed calls (nil-of_length (filter is_open calls) (length-filter is_open calls ∙ none))

-- a call that found no room gave the turn back
pub short-back : (rules : Rules) (entries needed : ℕ) (old new : Known Event Rules)
    → AfterWaiting (λ one other. OpenedWithin rules entries one other (opening.Short needed)) old new → AfterWaiting GaveBack old new
short-back rules entries needed old new found = record { till = found.till; waited = found.waited; made = found.made.gave_back }

module _ (old new : Known Event Rules) (back : AfterWaiting GaveBack old new) where
  waited_seen : back.till.view.seen ≡ old.view.seen
  waited_seen = ap (λ (k : Known Event Rules). k.view.seen) back.waited.is

  now_seen : new.view.seen ≡ old.view.seen ++ back.made.between
  now_seen = ap (λ (k : Known Event Rules). k.view.seen) back.made.is ∙ ap (λ (l : List Event). l ++ back.made.between) waited_seen

  pub back-mine : new.view.mine ≡ old.view.mine
  back-mine = ap (λ (k : Known Event Rules). k.view.mine) back.made.is ∙ ap (λ (k : Known Event Rules). k.view.mine) back.waited.is

  back-number : new.view.number ≡ old.view.number
  back-number = ap (λ (k : Known Event Rules). k.view.number) back.made.is ∙ ap (λ (k : Known Event Rules). k.view.number) back.waited.is

  -- and the pass made no other, and no cycle was opened
  pub back-stays : (start : View Event Rules) → KeepsPasses start old.view → KeepsPasses start new.view
  back-stays start stays = record {
    number = back-number ∙ stays.number;
    made = ap (λ (k : Known Event Rules). k.view.made) back.made.is ∙ ap (λ (k : Known Event Rules). k.view.made) back.waited.is ∙ stays.made;
    out = ap (λ (k : Known Event Rules). k.view.out) back.made.is ∙ ap (λ (k : Known Event Rules). k.view.out) back.waited.is ∙ stays.out;
    ended = ap (λ (k : Known Event Rules). k.view.ended) back.made.is ∙ ap (λ (k : Known Event Rules). k.view.ended) back.waited.is ∙ stays.ended;
  }

  pub back-seen : ((v : View Event Rules) → Facts number_of v → v.number ≡ 0 → filter is_open v.seen ≡ v.mine)
      → (rules : Rules) (start : List Event) → old.view.number ≡ 0 → Facts number_of old.view → Facts number_of new.view → IsLegal rules new.view.seen
      → HasSeen rules start old.view.seen → HasSeen rules start new.view.seen
  back-seen openings rules start zeroth before after legal so_far = record {
    calls = so_far.calls ++ back.made.between;
    closed = All-append (λ call. is_open call ≡ false) so_far.calls back.made.between so_far.closed
        (closed-behind old.view.seen back.made.between new.view.seen old.view.mine (sym now_seen)
        (openings old.view before zeroth) (openings new.view after (back-number ∙ zeroth) ∙ back-mine));
    seen = now_seen ∙ ap (λ (l : List Event). l ++ back.made.between) so_far.seen ∙ append_assoc start so_far.calls back.made.between;
    legal = legal;
  }

-- a call that found room opened the cycle
pub opened-on : (rules : Rules) (start : List Event) (entries : ℕ) (order : Order) (old new : Known Event Rules)
    → ((history later : List Event) → IsLegal rules (history ++ later) → IsLegal rules history)
    → AfterWaiting (λ one other. OpenedWithin rules entries one other (opening.Opened order)) old new → IsLegal rules new.view.seen
    → HasSeen rules start old.view.seen → HasOpened rules start new.view.seen order
opened-on rules start entries order old new front found legal so_far =
    let made = found.made in
    let between = made.answered.between in
    let event = Open order.cycle order.mask in
    let calls = so_far.calls ++ between in
    let split : found.till.view.seen ++ between ≡ start ++ calls =
    ap (λ (l : List Event). l ++ between) (ap (λ (k : Known Event Rules). k.view.seen) found.waited.is ∙ so_far.seen) ∙ append_assoc start so_far.calls between in
    let seen : new.view.seen ≡ (start ++ calls) ++ event ∷ [] =
    ap (λ (k : Known Event Rules). k.view.seen) made.answered.is ∙ ap (λ (l : List Event). l ++ event ∷ []) split in
    record {
      calls = calls;
      closed = All-append (λ call. is_open call ≡ false) so_far.calls between so_far.closed (closed-none between made.alone);
      seen = seen;
      ordered = subst (λ (h : List Event). IsOrderFor rules h order) split made.is_order;
      legal = front (start ++ calls) (event ∷ []) (subst (λ (h : List Event). IsLegal rules h) seen legal);
    }

-- a bus whose nodes know the same is running as well
pub running-same : (setting : Setting) (shared : Lock Rules) (seen : List Event) (old new : LiveBus) → IsSameBus old new
    → IsRunning setting shared seen old → IsRunning setting shared seen new
running-same setting shared seen old new same running = record {
  same_rules = running.same_rules;
  way = subst (λ t. IsOnTheWay setting seen t new.nodes) (sym same.trace)
      (way-same setting seen old.trace.items old.nodes new.nodes same.layout same.states running.way);
}

pub can_run-same : (shared : Lock Rules) (seen : List Event) (old new : LiveBus) → IsSameBus old new → CanDispatch shared seen old → CanDispatch shared seen new
can_run-same shared seen old new same running = (running.0, running-same running.0 shared seen old new same running.1)

-- and so it is behind calls that open no cycle
pub running-seen : CallsBetween → (setting : Setting) (shared : Lock Rules) (old new : List Event) (bus : LiveBus) → HasSeen shared.fixed old new
    → IsRunning setting shared old bus → IsRunning setting shared new bus
running-seen laws setting shared old new bus has running =
    let legal = subst (λ r. IsLegal r (old ++ has.calls)) running.same_rules (subst (λ (h : List Event). IsLegal shared.fixed h) has.seen has.legal) in
    record {
      same_rules = running.same_rules;
      way = subst (λ h. IsOnTheWay setting h bus.trace.items bus.nodes) (sym has.seen)
          (way-called laws setting old has.calls bus.trace.items bus.nodes has.closed legal running.way);
    }
