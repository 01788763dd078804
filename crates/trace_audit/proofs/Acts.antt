-- The calls of a history that is read from rows are the first acts of their operators.
use Rattle.std.proofs.Common.{◌≡◌, ◌++◌, ℕ, false, true, List, [], ◌∷◌, Some, drop, filter, length, map, refl, sym, ap, ◌∙◌, subst, inl, inr, append_assoc, append-nil}
use Rattle.std.specs.Prelude.{count_by, option_map, slice_get}
use Rattle.std.proofs.lemmas.Bool.{cases_Bool, cond-false, cond-true, eqb-true}
use Rattle.std.proofs.lemmas.List.{length-map, map-append}
use Rattle.std.proofs.lemmas.List.Elements.{filter-append}
use Rattle.std.proofs.lemmas.List.Sums.{length-filter}
use Rattle.std.proofs.lemmas.Option.{slice_get-map}
use Rattle.change_protocol.specs.declared.operations.Act.{Act}
use Rattle.change_protocol.specs.declared.operations.Act.TheVariants as act
use Rattle.admission_rules.specs.declared.Rules.{Rules}
use Rattle.master_core.specs.Calls.{Call, asked, call_of}
use Rattle.master_core.specs.declared.event.Event.{Event}
use Rattle.master_core.specs.declared.event.Event.TheVariants.{Submit, Look, Open}
use Rattle.live_master.specs.Callers.{is_called_by}
use Rattle.live_steps.specs.Live.{acts_of}
use Rattle.steps_file.specs.declared.steps.Step.{Step}
use Rattle.log_reader.specs.declared.row.LogRow.{LogRow}
use Rattle.trace_audit.specs.Audit.{BeginsActs}
use Rattle.trace_audit.specs.Reading.{AreReadFrom, IsHistoryOf, IsNextAct, IsReadFrom, is_event_row}
use Rattle.trace_audit.proofs.Readings.{drop-next}

pub get-behind : {A : Type 0} (front later : List A) → slice_get (front ++ later) (length front) ≡ slice_get later 0
get-behind [] later = refl
get-behind (x ∷ front) later = get-behind front later

-- what begins a list begins it with the next element too
one-further : {A : Type 0} (front later all : List A) (x : A) → front ++ later ≡ all → slice_get all (length front) ≡ Some x
    → (front ++ x ∷ []) ++ drop 1 later ≡ all
one-further front later all x is next =
    let first : slice_get later 0 ≡ Some x =
    sym (get-behind front later) ∙ ap (λ l. slice_get l (length front)) is ∙ next in
    append_assoc front (x ∷ []) (drop 1 later) ∙ ap (λ l. front ++ l) (sym (drop-next 0 later x first)) ∙ is

module _ (steps : List Step) (before : List Event) (event : Event) where
  calls-other : (operator : ℕ) → is_called_by operator event ≡ false
      → map call_of (filter (is_called_by operator) (before ++ event ∷ [])) ≡ map call_of (filter (is_called_by operator) before)
  calls-other operator none =
      ap (map call_of)
      (filter-append (is_called_by operator) before (event ∷ [])
      ∙ ap (λ l. filter (is_called_by operator) before ++ l) (cond-false (is_called_by operator event) (event ∷ []) [] none)
      ∙ append-nil (filter (is_called_by operator) before))

  calls-own : (operator : ℕ) → is_called_by operator event ≡ true
      → map call_of (filter (is_called_by operator) (before ++ event ∷ [])) ≡ map call_of (filter (is_called_by operator) before) ++ call_of event ∷ []
  calls-own operator is =
      ap (map call_of)
      (filter-append (is_called_by operator) before (event ∷ [])
      ∙ ap (λ l. filter (is_called_by operator) before ++ l) (cond-true (is_called_by operator event) (event ∷ []) [] is))
      ∙ map-append call_of (filter (is_called_by operator) before) (event ∷ [])

  -- where each operator that called takes its next act
  begins-more : ((operator : ℕ) → is_called_by operator event ≡ true
      → (taken : Act) × IsNextAct steps before operator taken × (call_of event ≡ asked operator taken))
      → BeginsActs steps before → BeginsActs steps (before ++ event ∷ [])
  begins-more takes begins operator =
      let (later, is) = begins operator in
      let calls : List Call = map call_of (filter (is_called_by operator) before) in
      let acts : List Call = map (asked operator) (acts_of operator steps) in
      elim (cases_Bool (is_called_by operator event)) [
        | inl own ↦
            let (taken, next, call) = takes operator own in
            let count : length calls ≡ count_by (is_called_by operator) before =
            length-map (filter (is_called_by operator) before) call_of ∙ length-filter (is_called_by operator) before in
            let there : slice_get acts (length calls) ≡ Some (call_of event) =
            ap (slice_get acts) count ∙ slice_get-map (asked operator) (acts_of operator steps) (count_by (is_called_by operator) before)
            ∙ ap (option_map (asked operator)) next ∙ ap Some (sym call) in
            (drop 1 later, ap (λ l. l ++ drop 1 later) (calls-own operator own) ∙ one-further calls later acts (call_of event) is there)
        | inr none ↦ (later, ap (λ l. l ++ later) (calls-other operator none) ∙ is)
      ]

begins-read : (rules : Rules) (steps : List Step) (before : List Event) (line : LogRow) (event : Event) → IsReadFrom rules steps before line event
    → BeginsActs steps before → BeginsActs steps (before ++ event ∷ [])
begins-read rules steps before line (Submit caller change from verdict trail) read =
    begins-more steps before (Submit caller change from verdict trail)
    (λ operator is. (
      act.Ask change,
      subst (λ n. IsNextAct steps before n (act.Ask change)) (eqb-true caller operator is) read.1,
      ap (λ n. asked n (act.Ask change)) (eqb-true caller operator is),
    ))
begins-read rules steps before line (Look caller next) read =
    begins-more steps before (Look caller next)
    (λ operator is. (
      act.Look,
      subst (λ n. IsNextAct steps before n act.Look) (eqb-true caller operator is) read.1,
      ap (λ n. asked n act.Look) (eqb-true caller operator is),
    ))
begins-read rules steps before line (Open cycle mask) read = begins-more steps before (Open cycle mask) (λ operator is. absurd (cc))

begins-all : (rules : Rules) (steps : List Step) (before : List Event) (lines : List LogRow) (events : List Event)
    → AreReadFrom rules steps before lines events → BeginsActs steps before → BeginsActs steps (before ++ events)
begins-all rules steps before [] [] all begins = subst (BeginsActs steps) (sym (append-nil before)) begins
begins-all rules steps before [] (event ∷ events) all begins = absurd all
begins-all rules steps before (line ∷ lines) [] all begins = absurd all
begins-all rules steps before (line ∷ lines) (event ∷ events) all begins =
    subst (BeginsActs steps) (append_assoc before (event ∷ []) events)
    (begins-all rules steps (before ++ event ∷ []) lines events all.1 (begins-read rules steps before line event all.0 begins))

-- the calls of the history of rows are the first acts of their operators
pub begins-acts : (rules : Rules) (steps : List Step) (rows : List LogRow) (history : List Event) → IsHistoryOf rules steps rows history
    → BeginsActs steps history
begins-acts rules steps rows history read =
    begins-all rules steps [] (filter is_event_row rows) history read (λ operator. (map (asked operator) (acts_of operator steps), refl))
