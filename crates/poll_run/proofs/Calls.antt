-- The last event of a history, by the call that it answers.
use Rattle.std.proofs.Common.{◌≡◌, ℕ, ◌+◌, ◌-◌, Bool, true, false, List, [], ◌∷◌, ◌++◌, get_or, length, map, refl, sym, ap, ◌∙◌, arith}
use Rattle.std.specs.Prelude.{◌&&◌}
use Rattle.std.proofs.Math.Seq.{get_or-append_seam}
use Rattle.std.proofs.lemmas.List.{append_cancel_left, length-append, map-append}
use Rattle.std.proofs.lemmas.List.Folds.{list_all-append}
use Rattle.change_protocol.specs.declared.operations.Act.{Act}
use Rattle.master_core.specs.Calls.{Call, asked, call_of}
use Rattle.master_core.specs.declared.event.Event.{Event}
use Rattle.master_core.specs.declared.event.Event.TheVariants.{Submit, Look, Open}
use Rattle.master_core.specs.History.{is_open}
use Rattle.master_core.specs.Accepted.{all_accepted, refuses_nothing}

first-of : (one other : Call) → one ∷ [] ≡ other ∷ [] → one ≡ other
first-of one other same = cc

is-closed : (event : Event) (caller : ℕ) (act : Act) → call_of event ≡ asked caller act → is_open event ≡ false
is-closed event by act answers = grind arith

-- an answer to an operator opens no cycle
pub closed-by : (own new : List Event) (event : Event) (caller : ℕ) (act : Act) → new ≡ own ++ event ∷ []
    → map call_of new ≡ map call_of own ++ asked caller act ∷ [] → is_open event ≡ false
closed-by own new event caller act history answered = grind (arith, is-closed, first-of, append_cancel_left, map-append)

pub last-event : (d : Event) (own now : List Event) (event last : Event) → now ≡ own ++ event ∷ [] → last ≡ get_or now (length now - 1) d
    → last ≡ event
last-event d own now event last same is =
    let count : length now ≡ length own + 1 = ap length same ∙ length-append own (event ∷ []) in
    let at : length now - 1 ≡ length own = omega (arith, count) in
    is ∙ ap (λ (l : List Event). get_or l (length now - 1) d) same ∙ ap (λ (n : ℕ). get_or (own ++ event ∷ []) n d) at
    ∙ get_or-append_seam own event [] d

and-true : (b : Bool) → (b && true) ≡ b
and-true b = grind arith

-- whether each change was accepted, with one event more
pub quiet-push : (own : List Event) (event : Event) (quiet : Bool) → quiet ≡ all_accepted own
    → (quiet && refuses_nothing event) ≡ all_accepted (own ++ event ∷ [])
quiet-push own event quiet is = grind (arith, and-true, list_all-append)

pub quiet-opened : (own : List Event) (cycle mask : ℕ) (quiet : Bool) → quiet ≡ all_accepted own → quiet ≡ all_accepted (own ++ Open cycle mask ∷ [])
quiet-opened own cycle mask quiet is = sym (and-true quiet) ∙ quiet-push own (Open cycle mask) quiet is
