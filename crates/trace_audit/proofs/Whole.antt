-- The answer to the rows of a log so far, and to all of them.
use Rattle.std.proofs.Common.{◌≡◌, ◌+◌, ◌<◌, ◌≤◌, ◌++◌, ℕ, zero, suc, Result, Ok, Err, IsErrAnd, Bool, false, true, List, [], ◌∷◌, All, Some, drop, get_or, length, take, refl, sym, ap, ◌∙◌, subst, arith, inl, inr}
use Rattle.std.specs.Prelude.{MatchResult, slice_get, sum_by}
use Rattle.std.proofs.lemmas.Bool.{cases_lt}
use Rattle.std.proofs.lemmas.List.{length-append}
use Rattle.std.proofs.lemmas.List.Elements.{All-head, All-nil, All-push, All-tail}
use Rattle.std.proofs.lemmas.Option.{slice_get-get_or}
use Rattle.async_window.specs.declared.request.Request.{Request}
use Rattle.master_core.specs.History.{next_of}
use Rattle.kept_run.proofs.Shared.{Promises, bytes_of-forgets}
use Rattle.steps_file.specs.StepsFile.{IsStep, count_of}
use Rattle.steps_file.specs.declared.steps.Step.{Step}
use Rattle.system_file.specs.declared.system.System.{System}
use Rattle.replay_run.specs.Run.{setting_of}
use Rattle.bus_trace.specs.LogRows.{events_told}
use Rattle.log_reader.specs.declared.row.LogRow.{LogRow}
use Rattle.log_reader.specs.declared.row.LogRow.TheVariants as row
use Rattle.trace_audit.specs.Audit.{AllStand, CanStand, IsAudited, IsFirstBreak, IsUnfinished, IsWholeLog}
use Rattle.trace_audit.specs.Auditing.{AnswersAllActs, AreRowsHeard, Hears, IsAuditing, IsEnded, IsUpTo, TakesRow, is_end, is_inner}
use Rattle.trace_audit.specs.declared.audit_fault.AuditFault.{AuditFault}
use Rattle.trace_audit.specs.declared.audit_fault.AuditFault.TheVariants.{Memory}
use Rattle.trace_audit.specs.declared.log_audit.LogAudit.{LogAudit}
use Rattle.trace_audit.proofs.Ending.{answers-operators, behind-breaks, can-stand, end-breaks, end-stands, is-whole, operators-answer, whole-answers}
use Rattle.trace_audit.proofs.Rows.{TraceLaws}

module _ {A : Type 0} where
  -- the item of a loop over places
  pub item-at : (xs : List A) (n : ℕ) (x : A) → n < length xs → x ≡ get_or xs n x → slice_get xs n ≡ Some x
  item-at xs n x within is = slice_get-get_or xs n x within ∙ ap Some (sym is)

  take-at : (n : ℕ) (xs : List A) (x : A) → slice_get xs n ≡ Some x → take (suc n) xs ≡ take n xs ++ x ∷ []
  take-at zero [] x is = absurd (cc)
  take-at zero (y ∷ xs) x is = let same : y ≡ x = cc in ap (λ z. z ∷ []) same
  take-at (suc n) [] x is = absurd (cc)
  take-at (suc n) (y ∷ xs) x is = ap (λ l. y ∷ l) (take-at n xs x is)

  -- the first elements, and one more
  pub take-next : (n : ℕ) (xs : List A) (x : A) → slice_get xs n ≡ Some x → take (n + 1) xs ≡ take n xs ++ x ∷ []
  take-next n xs x is = let more : n + 1 ≡ suc n = omega arith in ap (λ k. take k xs) more ∙ take-at n xs x is

  pub take-front : (n : ℕ) (xs ys : List A) → n ≤ length xs → take n (xs ++ ys) ≡ take n xs
  take-front zero xs ys few = refl
  take-front (suc n) [] ys few = absurd (omega (arith, few))
  take-front (suc n) (x ∷ xs) ys few = let less : n ≤ length xs = omega (arith, few) in ap (λ l. x ∷ l) (take-front n xs ys less)

  pub take-whole : (n : ℕ) (xs : List A) → length xs ≤ n → take n xs ≡ xs
  take-whole zero [] few = refl
  take-whole (suc n) [] few = refl
  take-whole zero (x ∷ xs) few = absurd (omega (arith, few))
  take-whole (suc n) (x ∷ xs) few = let less : length xs ≤ n = omega (arith, few) in ap (λ l. x ∷ l) (take-whole n xs less)

  pub take-length : (n : ℕ) (xs : List A) → n ≤ length xs → length (take n xs) ≡ n
  take-length zero xs few = refl
  take-length (suc n) [] few = absurd (omega (arith, few))
  take-length (suc n) (x ∷ xs) few = let less : n ≤ length xs = omega (arith, few) in ap suc (take-length n xs less)

  last-holds : (P : A → Type 0) (xs : List A) (x : A) → All P (xs ++ x ∷ []) → P x
  last-holds P [] x all = All-head P x [] all
  last-holds P (y ∷ xs) x all = last-holds P xs x (All-tail P y (xs ++ x ∷ []) all)

-- A log without its last row

-- rows none of which is the last one of a log are not all rows of a whole run
pub no-last : (system : System) (steps : List Step) (requests : List Request) (rows : List LogRow)
    → All (λ line. is_end line ≡ false) rows → IsWholeLog system steps requests rows → ⊥
no-last system steps requests rows none log = grind (arith, last-holds)

-- The rows so far, and one more

module _ (system : System) (steps : List Step) (requests : List Request) (rows : List LogRow) where
  -- each number of first rows can stand where all can, and those without the last one
  pub one-more : AllStand system steps requests rows → (line : LogRow) → CanStand system steps requests (rows ++ line ∷ [])
      → AllStand system steps requests (rows ++ line ∷ [])
  one-more h0 line h1 = grind (arith, cases_lt, length-append, take-whole, take-front)

  -- the row with which rows cannot stand is where all rows break off
  pub first-break : (whole later : List LogRow) (line : LogRow) (number : ℕ) → AllStand system steps requests rows
      → (CanStand system steps requests (rows ++ line ∷ []) → ⊥) → whole ≡ (rows ++ line ∷ []) ++ later → number ≡ length rows + 1
      → IsFirstBreak system steps requests whole number
  first-break whole later line number stand breaks is at = grind (arith, length-append, take-front, take-whole)

-- no row yet
pub none-heard : (system : System) (steps : List Step) (requests : List Request) (audit : LogAudit)
    → IsAuditing system steps requests [] audit.auditor → audit.ended ≡ false → AreRowsHeard system steps requests [] audit
none-heard system steps requests audit auditing going = record {
  stand = λ number few.
      let none : 0 ≡ number = omega (arith, few) in
      subst (λ n. CanStand system steps requests (take n [])) none (can-stand system steps requests [] audit.auditor auditing);
  up_to = subst (IsUpTo system steps requests [] audit.auditor) (sym going) (auditing, All-nil (λ line. is_end line ≡ false));
}

-- a row has the form of the last one of a log, or does not end it
pub not-end_row : (line : LogRow) → ((next : ℕ) → line ≡ row.End next → ⊥) → is_end line ≡ false
not-end_row line other = grind arith

-- a row that follows the row of its event does not end a log
pub inner-not_end : (line : LogRow) → is_inner line ≡ true → is_end line ≡ false
inner-not_end line inner = grind arith

module _ (steps : List Step) (old new : LogAudit) where
  -- a row that does not end a log
  pub hears-row : (line : LogRow) (stands : Bool) → old.ended ≡ false → new.ended ≡ false → is_end line ≡ false
      → TakesRow steps old.auditor new.auditor line stands → Hears steps old new line stands
  hears-row line stands going still not_end takes = record {
    stand = λ is system requests rows heard.
        let (auditing, none) = subst (IsUpTo system steps requests rows old.auditor) going heard.up_to in
        let now = takes.stand is system requests rows auditing in
        record {
          stand = one-more system steps requests rows heard.stand line (can-stand system steps requests (rows ++ line ∷ []) new.auditor now);
          up_to = subst (IsUpTo system steps requests (rows ++ line ∷ []) new.auditor) (sym still)
              (now, All-push (λ l. is_end l ≡ false) rows line none not_end);
        };
    break = λ is system requests rows heard can.
        let (auditing, none) = subst (IsUpTo system steps requests rows old.auditor) going heard.up_to in
        takes.break is system requests rows auditing can;
  }

  -- the last row of a log
  pub hears-end : (laws : TraceLaws) (kept : Promises) (next : ℕ) (stands : Bool) → old.ended ≡ false → new.ended ≡ stands
      → new.auditor ≡ old.auditor
      → (stands ≡ true → old.auditor.came ≡ length old.auditor.rows.items)
      → (stands ≡ true → next ≡ next_of old.auditor.rerun.master.history)
      → (stands ≡ false → old.auditor.came ≡ length old.auditor.rows.items → next ≡ next_of old.auditor.rerun.master.history → ⊥)
      → Hears steps old new (row.End next) stands
  hears-end laws kept next stands going ends same all_came opened none = record {
    stand = λ is system requests rows heard.
        let (auditing, not_last) = subst (IsUpTo system steps requests rows old.auditor) going heard.up_to in
        let ended : IsEnded system steps requests (rows ++ row.End next ∷ []) old.auditor = grind arith in
        record {
          stand = one-more system steps requests rows heard.stand (row.End next)
              (end-stands system steps requests rows old.auditor auditing kept (all_came is) next (opened is));
          up_to = subst (IsUpTo system steps requests (rows ++ row.End next ∷ []) new.auditor) (sym (ends ∙ is))
              (subst (IsEnded system steps requests (rows ++ row.End next ∷ [])) (sym same) ended);
        };
    break = λ is system requests rows heard can.
        let (auditing, not_last) = subst (IsUpTo system steps requests rows old.auditor) going heard.up_to in
        end-breaks system steps requests rows old.auditor auditing laws kept next (none is) can;
  }

  -- a row behind it
  pub hears-none : (laws : TraceLaws) (line : LogRow) → old.ended ≡ true → Hears steps old new line false
  hears-none laws line ended = record {
    stand = λ is. absurd (cc);
    break = λ is system requests rows heard can.
        let last = subst (IsUpTo system steps requests rows old.auditor) ended heard.up_to in
        behind-breaks system steps requests last.before old.auditor last.auditing laws last.next line last.all_came
        (subst (λ l. CanStand system steps requests (l ++ line ∷ [])) last.rows_are can);
  }

-- All rows

module _ (system : System) (steps : List Step) (requests : List Request) (rows : List LogRow) (audit : LogAudit)
    (heard : AreRowsHeard system steps requests rows audit) where
  -- no row ends the log
  pub not-ended : audit.ended ≡ false → IsUnfinished system steps requests rows
  not-ended going =
      let (auditing, none) = subst (IsUpTo system steps requests rows audit.auditor) going heard.up_to in
      record { stand = heard.stand; not_all = no-last system steps requests rows none }

  module _ (kept : Promises) (ended : audit.ended ≡ true) where
    last-row : IsEnded system steps requests rows audit.auditor
    last-row = subst (IsUpTo system steps requests rows audit.auditor) ended heard.up_to

    -- not all that the steps ask for has happened
    pub is-unfinished : (audit.auditor.rerun.master.keeps ≡ true → next_of audit.auditor.rerun.master.history ≡ sum_by count_of steps
        → AnswersAllActs steps audit.auditor.rerun.master.history → ⊥)
        → IsUnfinished system steps requests rows
    is-unfinished none =
        let last = last-row in
        record {
          stand = heard.stand;
          not_all = λ log.
              let answers = whole-answers system steps requests last.before audit.auditor last.auditing kept last.all_came last.next
              (subst (IsWholeLog system steps requests) last.rows_are log) in
              none last.auditing.again.keeps answers.opened (operators-answer steps audit.auditor.rerun.master.history answers);
        }

    -- all has
    pub is-audited : All IsStep steps → next_of audit.auditor.rerun.master.history ≡ sum_by count_of steps
        → AnswersAllActs steps audit.auditor.rerun.master.history → IsAudited system steps requests rows
    is-audited legal opened answered =
        let last = last-row in
        let history = audit.auditor.rerun.master.history in
        let answers = answers-operators system.rules steps last.before history legal last.auditing.read opened answered in
        let way = last.auditing.again.way in
        let log = is-whole system steps requests last.before audit.auditor last.auditing kept last.all_came last.next last.opened answers in
        let audited : IsAudited system steps requests (last.before ++ row.End last.next ∷ []) = record {
          stand = subst (AllStand system steps requests) last.rows_are heard.stand;
          all = log;
          kept = kept.kept (setting_of system requests) history last.auditing.trace way.known bytes_of-forgets way.under_way;
        } in
        subst (IsAudited system steps requests) (sym last.rows_are) audited

-- where memory ran out, nothing is said of the log
pub no-memory : {T : Type 0} (result : Result T AuditFault) (Holds : T → Type 0) (Fault : AuditFault → Type 0) → IsErrAnd result (λ fault. fault ≡ Memory)
    → Fault Memory → MatchResult result Holds Fault
no-memory result Holds Fault is holds = grind arith
