-- The last event of a history, by the call that it answers.
use Rattle.std.proofs.Common.{◌≡◌, ℕ, ◌≤◌, false, List, [], ◌∷◌, ◌++◌, map, refl, sym, ap, ◌∙◌, subst}
use Rattle.std.proofs.lemmas.List.{append_cancel_left, map-append}
use Rattle.change_protocol.specs.declared.operations.Act.{Act}
use Rattle.master_core.specs.Calls.{Call, asked, call_of, opens}
use Rattle.master_core.specs.declared.event.Event.{Event}
use Rattle.master_core.specs.declared.event.Event.TheVariants.{Submit, Look, Open}
use Rattle.master_core.specs.History.{is_open}
use Rattle.handover_run.specs.Following.{HasOperator}

-- what it answers
pub answered-by : (own new : List Event) (event : Event) (calls : List Call) → new ≡ own ++ event ∷ [] → map call_of new ≡ map call_of own ++ calls
    → call_of event ∷ [] ≡ calls
answered-by own new event calls history answered =
    append_cancel_left (map call_of own) (call_of event ∷ []) calls
    (sym (map-append call_of own (event ∷ [])) ∙ sym (ap (map call_of) history) ∙ answered)

first-of : (one other : Call) → one ∷ [] ≡ other ∷ [] → one ≡ other
first-of one other same = cc

-- an opening
pub record IsOpening (event : Event) : Type 0 where
  pub cycle : ℕ
  pub mask : ℕ
  pub is : event ≡ Open cycle mask

is-opening : (event : Event) → call_of event ≡ opens → IsOpening event
is-opening (Submit caller change from verdict trail) answers = absurd (cc)
is-opening (Look caller next) answers = absurd (cc)
is-opening (Open cycle mask) answers = record { cycle = cycle; mask = mask; is = refl }

pub opening-of : (event : Event) → call_of event ∷ [] ≡ opens ∷ [] → IsOpening event
opening-of event answers = is-opening event (first-of (call_of event) opens answers)

-- an answer to an operator
is-closed : (event : Event) (caller : ℕ) (act : Act) → call_of event ≡ asked caller act → is_open event ≡ false
is-closed (Submit caller change from verdict trail) by act answers = refl
is-closed (Look caller next) by act answers = refl
is-closed (Open cycle mask) by act answers = absurd (cc)

pub closed-by : (event : Event) (caller : ℕ) (act : Act) → call_of event ∷ [] ≡ asked caller act ∷ [] → is_open event ≡ false
closed-by event caller act answers = is-closed event caller act (first-of (call_of event) (asked caller act) answers)

in-range : (caller by : ℕ) (one other : Act) → asked caller one ≡ asked by other → (1 ≤ by) × (by ≤ 8) → (1 ≤ caller) × (caller ≤ 8)
in-range caller by one other same range = let is : caller ≡ by = cc in subst (λ (n : ℕ). (1 ≤ n) × (n ≤ 8)) (sym is) range

has-operator : (event : Event) (by : ℕ) (act : Act) → call_of event ≡ asked by act → (1 ≤ by) × (by ≤ 8) → HasOperator event
has-operator (Submit caller change from verdict trail) by act answers range = in-range caller by _ act answers range
has-operator (Look caller next) by act answers range = tt
has-operator (Open cycle mask) by act answers range = tt

pub operator-of : (event : Event) (by : ℕ) (act : Act) → call_of event ∷ [] ≡ asked by act ∷ [] → (1 ≤ by) × (by ≤ 8) → HasOperator event
operator-of event by act answers range = has-operator event by act (first-of (call_of event) (asked by act) answers) range
