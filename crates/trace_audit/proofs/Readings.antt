-- The history of rows, with one row more.
use Rattle.std.proofs.Common.{◌≡◌, ◌+◌, ◌<◌, ◌++◌, ◌∷◌, ℕ, zero, suc, true, false, List, [], All, Some, drop, filter, length, refl, sym, ap, ◌∙◌, subst, arith, append_assoc, append-nil}
use Rattle.std.specs.Prelude.{slice_get}
use Rattle.std.proofs.lemmas.Bool.{cond-false, cond-true}
use Rattle.std.proofs.lemmas.List.{append_cancel_left}
use Rattle.std.proofs.lemmas.List.Elements.{All-head, All-tail, filter-append}
use Rattle.admission_rules.specs.declared.Rules.{Rules}
use Rattle.master_core.specs.declared.event.Event.{Event}
use Rattle.steps_file.specs.declared.steps.Step.{Step}
use Rattle.log_reader.specs.declared.row.LogRow.{LogRow}
use Rattle.trace_audit.specs.Reading.{AreReadFrom, IsHistoryOf, IsReadFrom, is_event_row}

-- Events that are read one by one

module _ (rules : Rules) (steps : List Step) where
  pub reads-push : (before : List Event) (lines : List LogRow) (history : List Event) (line : LogRow) (event : Event)
      → AreReadFrom rules steps before lines history → IsReadFrom rules steps (before ++ history) line event
      → AreReadFrom rules steps before (lines ++ line ∷ []) (history ++ event ∷ [])
  reads-push before [] [] line event all last = (subst (λ h. IsReadFrom rules steps h line event) (append-nil before) last, tt)
  reads-push before [] (x ∷ xs) line event all last = absurd all
  reads-push before (l ∷ lines) [] line event all last = absurd all
  reads-push before (l ∷ lines) (x ∷ xs) line event all last = (
    all.0,
    reads-push (before ++ x ∷ []) lines xs line event all.1
        (subst (λ h. IsReadFrom rules steps h line event) (sym (append_assoc before (x ∷ []) xs)) last),
  )

  -- what is read from some rows and one more: an event from the last one, behind those from the others
  pub record ReadsLast (before : List Event) (lines : List LogRow) (line : LogRow) (history : List Event) : Type 0 where
    pub front : List Event
    pub event : Event
    pub is : history ≡ front ++ event ∷ []
    pub all : AreReadFrom rules steps before lines front
    pub last : IsReadFrom rules steps (before ++ front) line event

  pub reads-parts : (before : List Event) (lines : List LogRow) (line : LogRow) (history : List Event)
      → AreReadFrom rules steps before (lines ++ line ∷ []) history → ReadsLast before lines line history
  reads-parts before [] line [] all = absurd all
  reads-parts before [] line (x ∷ []) all = record {
    front = [];
    event = x;
    is = refl;
    all = tt;
    last = subst (λ h. IsReadFrom rules steps h line x) (sym (append-nil before)) all.0;
  }
  reads-parts before [] line (x ∷ y ∷ more) all = absurd all.1
  reads-parts before (l ∷ lines) line [] all = absurd all
  reads-parts before (l ∷ lines) line (x ∷ xs) all =
      let rest = reads-parts (before ++ x ∷ []) lines line xs all.1 in
      record {
        front = x ∷ rest.front;
        event = rest.event;
        is = ap (λ l. x ∷ l) rest.is;
        all = (all.0, rest.all);
        last = subst (λ h. IsReadFrom rules steps h line rest.event) (append_assoc before (x ∷ []) rest.front) rest.last;
      }

-- Rows of events among rows

event-row-more : (rows : List LogRow) (line : LogRow) → is_event_row line ≡ true
    → filter is_event_row (rows ++ line ∷ []) ≡ filter is_event_row rows ++ line ∷ []
event-row-more rows line is = grind (arith, filter-append, cond-true)

other-row-more : (rows : List LogRow) (line : LogRow) → is_event_row line ≡ false
    → filter is_event_row (rows ++ line ∷ []) ≡ filter is_event_row rows
other-row-more rows line is = grind (arith, filter-append, cond-false, append-nil)

-- rows none of which is that of an event
none-more : (rows later : List LogRow) → All (λ line. is_event_row line ≡ false) later
    → filter is_event_row (rows ++ later) ≡ filter is_event_row rows
none-more rows [] none = ap (filter is_event_row) (append-nil rows)
none-more rows (line ∷ later) none =
    ap (filter is_event_row) (sym (append_assoc rows (line ∷ []) later))
    ∙ none-more (rows ++ line ∷ []) later (All-tail (λ l. is_event_row l ≡ false) line later none)
    ∙ other-row-more rows line (All-head (λ l. is_event_row l ≡ false) line later none)

module _ (rules : Rules) (steps : List Step) (rows later : List LogRow) (none : All (λ line. is_event_row line ≡ false) later)
    (history : List Event) where
  -- no event is read from them
  pub history-behind : IsHistoryOf rules steps rows history → IsHistoryOf rules steps (rows ++ later) history
  history-behind read = subst (λ l. AreReadFrom rules steps [] l history) (sym (none-more rows later none)) read

  pub history-before : IsHistoryOf rules steps (rows ++ later) history → IsHistoryOf rules steps rows history
  history-before read = subst (λ l. AreReadFrom rules steps [] l history) (none-more rows later none) read

module _ (rules : Rules) (steps : List Step) (rows : List LogRow) (line : LogRow) where
  pub history-push : (history : List Event) (event : Event) → is_event_row line ≡ true → IsHistoryOf rules steps rows history
      → IsReadFrom rules steps history line event → IsHistoryOf rules steps (rows ++ line ∷ []) (history ++ event ∷ [])
  history-push history event is read last = grind (arith, event-row-more, reads-push)

  pub history-parts : (history : List Event) → is_event_row line ≡ true → IsHistoryOf rules steps (rows ++ line ∷ []) history
      → ReadsLast rules steps [] (filter is_event_row rows) line history
  history-parts history is read = grind (arith, reads-parts, event-row-more)

  pub history-stays : (history : List Event) → is_event_row line ≡ false → IsHistoryOf rules steps rows history
      → IsHistoryOf rules steps (rows ++ line ∷ []) history
  history-stays history is read = subst (λ l. AreReadFrom rules steps [] l history) (sym (other-row-more rows line is)) read

  pub history-stood : (history : List Event) → is_event_row line ≡ false → IsHistoryOf rules steps (rows ++ line ∷ []) history
      → IsHistoryOf rules steps rows history
  history-stood history is read = subst (λ l. AreReadFrom rules steps [] l history) (other-row-more rows line is) read

-- The row behind some rows

module _ {A : Type 0} where
  next-of : (left : List A) (x : A) (later rest : List A) → x ∷ later ≡ left ++ rest → 0 < length left → slice_get left 0 ≡ Some x
  next-of [] x later rest is some = absurd (omega (arith, some))
  next-of (y ∷ left) x later rest is some = grind arith

  -- where some rows and one more begin a list that begins with these rows and others, the one is the first of the others
  pub next-row : (rows left : List A) (x : A) (later rest : List A) → (rows ++ x ∷ []) ++ later ≡ (rows ++ left) ++ rest
      → 0 < length left → slice_get left 0 ≡ Some x
  next-row rows left x later rest is some = grind (arith, next-of, append_cancel_left, append_assoc)

  pub get-drop : (n : ℕ) (xs : List A) → slice_get (drop n xs) 0 ≡ slice_get xs n
  get-drop zero xs = refl
  get-drop (suc n) [] = refl
  get-drop (suc n) (x ∷ xs) = get-drop n xs

  drop-at : (n : ℕ) (xs : List A) (x : A) → slice_get xs n ≡ Some x → drop n xs ≡ x ∷ drop (suc n) xs
  drop-at zero [] x is = absurd (cc)
  drop-at zero (y ∷ xs) x is = let same : y ≡ x = cc in ap (λ z. z ∷ xs) same
  drop-at (suc n) [] x is = absurd (cc)
  drop-at (suc n) (y ∷ xs) x is = drop-at n xs x is

  -- the first of what is left, and then the rest
  pub drop-next : (n : ℕ) (xs : List A) (x : A) → slice_get xs n ≡ Some x → drop n xs ≡ x ∷ drop (n + 1) xs
  drop-next n xs x is = let more : suc n ≡ n + 1 = omega arith in drop-at n xs x is ∙ ap (λ k. x ∷ drop k xs) more
