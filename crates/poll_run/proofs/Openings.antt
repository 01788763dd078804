-- The openings of a history with more events, and what holds of all of them.
use Rattle.std.proofs.Common.{◌≡◌, ℕ, ◌<◌, false, List, [], ◌∷◌, ◌++◌, get_or, length, map, All, Contains, refl, ap, ◌∙◌, arith}
use Rattle.std.specs.List.{range_with_len}
use Rattle.std.proofs.lemmas.List.{append-nil}
use Rattle.std.proofs.lemmas.List.Elements.{All-cons, All-head, All-nil, All-tail, Contains-get_or}
use Rattle.requirement_table.specs.Opening.{Opening}
use Rattle.admission_rules.specs.declared.Rules.{Rules}
use Rattle.master_core.specs.declared.event.Event.{Event}
use Rattle.master_core.specs.declared.event.Event.TheVariants.{Submit, Look, Open}
use Rattle.master_core.specs.History.{IsLegal, IsRight, is_open}
use Rattle.master_core.specs.Openings.{opening_of, openings_of}
use Rattle.kept_run.proofs.Shared.{AllAfter-parts}
use Rattle.replay_run.proofs.Shared.{cycle-at, openings_of-append, so-many}

pub openings-push : (history : List Event) (event : Event) → openings_of (history ++ event ∷ []) ≡ openings_of history ++ opening_of history event
openings-push history event = openings_of-append history (event ∷ []) ∙ ap (λ l. openings_of history ++ l) (append-nil (opening_of history event))

opens-nothing : (history : List Event) (event : Event) → is_open event ≡ false → opening_of history event ≡ []
opens-nothing history event none = grind arith

pub openings-closed : (history : List Event) (event : Event) → is_open event ≡ false → openings_of (history ++ event ∷ []) ≡ openings_of history
openings-closed history event none = grind (arith, openings-push, opens-nothing, append-nil)

-- the last event of a legal history is right
pub right-last : (rules : Rules) (history : List Event) (event : Event) → IsLegal rules (history ++ event ∷ []) → IsLegal rules history × IsRight rules history event
right-last rules history event legal = let parts = AllAfter-parts (IsRight rules) [] history (event ∷ []) legal in (parts.0, parts.1.0)

-- what holds of all holds of the first ones, and of the last one
pub all-front : {X : Type 0} (P : X → Type 0) (xs ys : List X) → All P (xs ++ ys) → All P xs
all-front P [] ys all = All-nil P
all-front P (x ∷ xs) ys all = All-cons P x xs (All-head P x (xs ++ ys) all) (all-front P xs ys (All-tail P x (xs ++ ys) all))

pub all-last : {X : Type 0} (P : X → Type 0) (xs : List X) (y : X) → All P (xs ++ y ∷ []) → P y
all-last P [] y all = All-head P y [] all
all-last P (x ∷ xs) y all = all-last P xs y (All-tail P x (xs ++ y ∷ []) all)

-- of openings of the cycles from 0 on there is one of each cycle
pub opening-at : (openings : List Opening) (n cycle : ℕ) → map (λ o. o.cycle) openings ≡ range_with_len 0 n → cycle < n
    → (o : Opening) × Contains openings o × (o.cycle ≡ cycle)
opening-at [] n cycle in_order early = absurd (let all = so-many [] n in_order in omega (arith, all, early))
opening-at (o ∷ later) n cycle in_order early =
    let all = so-many (o ∷ later) n in_order in
    let here : cycle < length (o ∷ later) = omega (arith, all, early) in
    (get_or (o ∷ later) cycle o, Contains-get_or (o ∷ later) cycle o here, cycle-at (o ∷ later) n in_order cycle o here)
