-- What is worked out of the core of a history.
use Rattle.std.proofs.Common.{◌≡◌, ℕ, ◌+◌, Bool, true, false, cond, if◌then◌else◌, List, [], ◌∷◌, ◌++◌, Some, None, fold, count_by, refl, sym, ap, ◌∙◌}
use Rattle.std.proofs.lemmas.List.{append-nil}
use Rattle.std.proofs.lemmas.Grind.{flat_map-append}
use Rattle.std.proofs.lemmas.List.Concat.{flat_map-cons}
use Rattle.std.proofs.lemmas.List.Sums.{fold-append, sum_by-append, sum_by-cons}
use Rattle.admission.specs.Verdict.{is_accepted}
use Rattle.change_protocol.specs.Applied.{applied}
use Rattle.change_protocol.specs.declared.operations.Change.{Change}
use Rattle.master_core.specs.History.{placed_after, placed_of, next_of, is_open, is_changed, is_changed_after, learned_of}
use Rattle.master_core.specs.Openings.{opening_of, openings_after}
use Rattle.master_core.specs.declared.event.Event.{Event}
use Rattle.master_core.specs.declared.event.Event.TheVariants.{Submit, Look, Open}
use Rattle.requirement_table.specs.Opening.{Opening}
use Rattle.requirement_table.specs.declared.entries.Placed.{Placed}
use Rattle.standby.specs.Core.{Item, changed, opened, items_of, core_of}

pub core_of-append : (front back : List Event) → core_of (front ++ back) ≡ core_of front ++ core_of back
core_of-append front back = flat_map-append items_of front back

pub core_of-cons : (event : Event) (back : List Event) → core_of (event ∷ back) ≡ items_of event ++ core_of back
core_of-cons event back = flat_map-cons items_of event back

pub core_of-one : (event : Event) → core_of (event ∷ []) ≡ items_of event
core_of-one event = flat_map-cons items_of event [] ∙ append-nil (items_of event)

pub core_of-push : (history : List Event) (event : Event) → core_of (history ++ event ∷ []) ≡ core_of history ++ items_of event
core_of-push history event = core_of-append history (event ∷ []) ∙ ap (λ (l : List Item). core_of history ++ l) (core_of-one event)

-- what steps from event to event, and does what the items of each event do, is worked out of the core
module _ {S : Type 0} (by_event : S → Event → S) (by_item : S → Item → S) (same : (s : S) (event : Event) → by_event s event ≡ fold by_item s (items_of event)) where
  pub fold-core : (s : S) (history : List Event) → fold by_event s history ≡ fold by_item s (core_of history)
  fold-core s [] = refl
  fold-core s (event ∷ later) =
      fold-core (by_event s event) later
      ∙ ap (λ (t : S). fold by_item t (core_of later)) (same s event)
      ∙ sym (ap (fold by_item s) (core_of-cons event later) ∙ fold-append by_item s (items_of event) (core_of later))

-- the placed entries

abbrev placed_by : List Placed → Item → List Placed
placed_by placed (changed caller change) = applied placed change
placed_by placed (opened cycle mask) = placed

placed-if : (placed : List Placed) (caller : ℕ) (change : Change) (b : Bool)
    → (if b then applied placed change else placed) ≡ fold placed_by placed (if b then changed caller change ∷ [] else [])
placed-if placed caller change true = refl
placed-if placed caller change false = refl

placed-same : (placed : List Placed) (event : Event) → placed_after placed event ≡ fold placed_by placed (items_of event)
placed-same placed (Submit caller change from verdict trail) = placed-if placed caller change (is_accepted verdict)
placed-same placed (Look caller next) = refl
placed-same placed (Open cycle mask) = refl

pub placed-core : (one other : List Event) → core_of one ≡ core_of other → placed_of one ≡ placed_of other
placed-core one other same =
    fold-core placed_after placed_by placed-same [] one
    ∙ ap (fold placed_by []) same
    ∙ sym (fold-core placed_after placed_by placed-same [] other)

-- whether the nodes have something to learn

abbrev changed_by : Bool → Item → Bool
changed_by b (changed caller change) = true
changed_by b (opened cycle mask) = false

changed-if : (was : Bool) (caller : ℕ) (change : Change) (b : Bool) → (if b then true else was) ≡ fold changed_by was (if b then changed caller change ∷ [] else [])
changed-if was caller change true = refl
changed-if was caller change false = refl

changed-same : (was : Bool) (event : Event) → is_changed_after was event ≡ fold changed_by was (items_of event)
changed-same was (Submit caller change from verdict trail) = changed-if was caller change (is_accepted verdict)
changed-same was (Look caller next) = refl
changed-same was (Open cycle mask) = refl

pub is_changed-core : (one other : List Event) → core_of one ≡ core_of other → is_changed one ≡ is_changed other
is_changed-core one other same =
    fold-core is_changed_after changed_by changed-same false one
    ∙ ap (fold changed_by false) same
    ∙ sym (fold-core is_changed_after changed_by changed-same false other)

pub learned-core : (one other : List Event) → core_of one ≡ core_of other → learned_of one ≡ learned_of other
learned-core one other same =
    ap (λ (b : Bool). if b then Some (placed_of one) else None) (is_changed-core one other same)
    ∙ ap (λ (l : List Placed). if is_changed other then Some l else None) (placed-core one other same)

-- the next cycle

abbrev pub is_opened : Item → Bool
is_opened (changed caller change) = false
is_opened (opened cycle mask) = true

abbrev pub opens_in : List Item → ℕ
opens_in items = count_by is_opened items

opens-if : (caller : ℕ) (change : Change) (b : Bool) → 0 ≡ count_by is_opened (if b then changed caller change ∷ [] else [])
opens-if caller change true = refl
opens-if caller change false = refl

opens-same : (event : Event) → cond (is_open event) 1 0 ≡ count_by is_opened (items_of event)
opens-same (Submit caller change from verdict trail) = opens-if caller change (is_accepted verdict)
opens-same (Look caller next) = refl
opens-same (Open cycle mask) = refl

pub next-items : (history : List Event) → next_of history ≡ opens_in (core_of history)
next-items [] = refl
next-items (event ∷ later) =
    sum_by-cons (λ (e : Event). cond (is_open e) 1 0) event later
    ∙ ap (λ (n : ℕ). n + next_of later) (opens-same event)
    ∙ ap (λ (n : ℕ). count_by is_opened (items_of event) + n) (next-items later)
    ∙ sym (ap opens_in (core_of-cons event later) ∙ sum_by-append (λ (i : Item). cond (is_opened i) 1 0) (items_of event) (core_of later))

pub next-core : (one other : List Event) → core_of one ≡ core_of other → next_of one ≡ next_of other
next-core one other same = next-items one ∙ ap opens_in same ∙ sym (next-items other)

-- the openings

abbrev openings_by : List Placed → List Item → List Opening
openings_by placed [] = []
openings_by placed (changed caller change ∷ items) = openings_by (applied placed change) items
openings_by placed (opened cycle mask ∷ items) = record { cycle = cycle; mask = mask; placed = placed } ∷ openings_by placed items

placed_of-push : (history : List Event) (event : Event) → placed_of (history ++ event ∷ []) ≡ placed_after (placed_of history) event
placed_of-push history event = fold-append placed_after [] history (event ∷ [])

opening-if : (placed : List Placed) (items : List Item) (caller : ℕ) (change : Change) (b : Bool)
    → openings_by (if b then applied placed change else placed) items ≡ openings_by placed ((if b then changed caller change ∷ [] else []) ++ items)
opening-if placed items caller change true = refl
opening-if placed items caller change false = refl

opening-same : (before : List Event) (event : Event) (items : List Item)
    → opening_of before event ++ openings_by (placed_after (placed_of before) event) items ≡ openings_by (placed_of before) (items_of event ++ items)
opening-same before (Submit caller change from verdict trail) items = opening-if (placed_of before) items caller change (is_accepted verdict)
opening-same before (Look caller next) items = refl
opening-same before (Open cycle mask) items = refl

openings-items : (before later : List Event) → openings_after before later ≡ openings_by (placed_of before) (core_of later)
openings-items before [] = refl
openings-items before (event ∷ later) =
    ap (λ (l : List Opening). opening_of before event ++ l)
    (openings-items (before ++ event ∷ []) later ∙ ap (λ (p : List Placed). openings_by p (core_of later)) (placed_of-push before event))
    ∙ opening-same before event (core_of later)
    ∙ ap (openings_by (placed_of before)) (sym (core_of-cons event later))

pub openings-core : (one other later also : List Event) → core_of one ≡ core_of other → core_of later ≡ core_of also
    → openings_after one later ≡ openings_after other also
openings-core one other later also same still =
    openings-items one later
    ∙ ap (λ (p : List Placed). openings_by p (core_of later)) (placed-core one other same)
    ∙ ap (openings_by (placed_of other)) still
    ∙ sym (openings-items other also)
