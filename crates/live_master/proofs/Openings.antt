-- The openings of a history are the events of the pass of number 0.
use Rattle.std.proofs.Common.{◌≡◌, ℕ, ◌+◌, ◌==◌, ◌++◌, ◌∷◌, [], List, Bool, true, false, cond, length, length-append, refl, sym, ap, ◌∙◌, arith, zero-add, filter}
use Rattle.std.proofs.lemmas.List.Sums.{length-filter, sum_by-cons}
use Rattle.turn_lock.specs.History.{own}
use Rattle.turn_lock.proofs.Shared.{own-append}
use Rattle.master_core.specs.declared.event.Event.{Event}
use Rattle.master_core.specs.declared.event.Event.TheVariants.{Submit, Look, Open}
use Rattle.master_core.specs.History.{is_open, next_of}
use Rattle.live_master.specs.Callers.{number_of, operator_number}

not_zero_by : (caller : ℕ) (b : Bool) → (caller == 0) ≡ b → (cond b 9 caller == 0) ≡ false
not_zero_by caller true is = refl
not_zero_by caller false is = is

not_zero : (caller : ℕ) → (operator_number caller == 0) ≡ false
not_zero caller = not_zero_by caller (caller == 0) refl

pub opens : (e : Event) → (number_of e == 0) ≡ is_open e
opens (Submit caller change from verdict trail) = not_zero caller
opens (Look caller next) = not_zero caller
opens (Open cycle mask) = refl

pub own_opens : (history : List Event) → own number_of 0 history ≡ filter is_open history
own_opens [] = refl
own_opens (e ∷ es) =
    ap (λ b. cond b (e ∷ own number_of 0 es) (own number_of 0 es)) (opens e) ∙ ap (λ l. cond (is_open e) (e ∷ l) l) (own_opens es)

-- the number of openings is that of the events of the pass 0
pub next_own : (history : List Event) → next_of history ≡ length (own number_of 0 history)
next_own history = sym (length-filter is_open history) ∙ ap (λ l. length l) (sym (own_opens history))

next_cons : (e : Event) (es : List Event) → next_of (e ∷ es) ≡ cond (is_open e) 1 0 + next_of es
next_cons e es = sum_by-cons (λ (x : Event). cond (is_open x) 1 0) e es

next_step : (e : Event) (es mine : List Event) (b : Bool) → is_open e ≡ b → next_of mine ≡ next_of es → next_of (cond b (e ∷ mine) mine) ≡ next_of (e ∷ es)
next_step e es mine true is same = next_cons e mine ∙ (ap (λ n. cond (is_open e) 1 0 + n) same ∙ sym (next_cons e es))
next_step e es mine false is same = same ∙ (sym (zero-add (next_of es)) ∙ (sym (ap (λ b. cond b 1 0 + next_of es) is) ∙ sym (next_cons e es)))

-- the pass 0 has all openings of a history, so as many as these
pub next_mine : (history : List Event) → next_of (own number_of 0 history) ≡ next_of history
next_mine [] = refl
next_mine (e ∷ es) = next_step e es (own number_of 0 es) (number_of e == 0) (sym (opens e)) (next_mine es)

-- where the pass 0 has the same events in a list and in its beginning, no cycle was opened in between
pub none_between : (seen between mine : List Event) → own number_of 0 seen ≡ mine → own number_of 0 (seen ++ between) ≡ mine → next_of between ≡ 0
none_between seen between mine before after =
    let whole = ap (λ (l : List Event). length l) (sym (own-append number_of 0 seen between) ∙ (after ∙ sym before)) in
    let count = next_own between in
    omega (arith, length-append (own number_of 0 seen) (own number_of 0 between))

-- where the dispatcher found these events of its own, the history that it found has as many openings
pub next_found : (number : ℕ) (found mine : List Event) → number ≡ 0 → own number_of number found ≡ mine → next_of found ≡ next_of mine
next_found number found mine zeroth owned =
    sym (next_mine found) ∙ ap next_of (ap (λ n. own number_of n found) (sym zeroth) ∙ owned)
