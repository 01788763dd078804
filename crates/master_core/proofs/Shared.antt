-- What proofs of the crates above may take from here: what is known of legal histories and of those with one event more,
-- that calls have one plainly legal history, that what answers the first of them begins it, and which lists stand for
-- others.
use Rattle.std.proofs.Common.{◌≡◌, ℕ, ◌≤◌, List, [], ◌∷◌, ◌++◌, map, refl, sym, ap, ◌∙◌, subst, append-nil, arith}
use Rattle.requirement_table.specs.declared.entries.Placed.{Placed}
use Rattle.change_protocol.specs.declared.operations.Change.{Change}
use Rattle.admission_rules.specs.declared.Rules.{Rules}
use Rattle.admission.specs.Verdict.{IsVerdict}
use Rattle.admission.specs.declared.verdict.Verdict.{Verdict}
use Rattle.master_core.specs.declared.event.Event.{Event}
use Rattle.master_core.specs.declared.event.Event.TheVariants.{Submit, Look, Open}
use Rattle.master_core.specs.History.{AllAfter, IsPlainlyLegal, IsPlannedNow, IsRight, IsRightAnswer}
use Rattle.requirement_table.specs.Table.{IsWellPlaced}
use Rattle.master_core.specs.Orders.{StandsFor}
use Rattle.change_protocol.specs.declared.operations.Act.TheVariants as act
use Rattle.master_core.specs.Calls.{Call, asked, call_of}
pub use Rattle.master_core.proofs.Earlier.{opened-of_legal}
pub use Rattle.master_core.proofs.Histories.{is_changed-push, legal-push, next_of-push, openings_of-push, placed_of-push}
pub use Rattle.master_core.proofs.KeptLists.{kept-held, kept-next, kept-same, kept_of-push}
pub use Rattle.master_core.proofs.Legal.{sound-of_legal}
pub use Rattle.master_core.proofs.Settling.{none-behind, same-placed, since-now}

-- there is one verdict
pub record OneVerdict : Type 0 where
  pub same : (rules : Rules) (placed : List Placed) (pending from next : ℕ) (change : Change) (one other : Verdict)
      → IsVerdict rules placed pending from next change one → IsVerdict rules placed pending from next change other → one ≡ other

pub record SameAnswer (one other : Verdict) (trail second : List ℕ) : Type 0 where
  pub verdict : one ≡ other
  pub plan : trail ≡ second

-- a change that is planned from one cycle has one answer
pub same-answer : OneVerdict → (rules : Rules) (before : List Event) (change : Change) (from : ℕ) (one other : Verdict) (trail second : List ℕ)
    → IsRightAnswer rules before change from one trail → IsRightAnswer rules before change from other second → SameAnswer one other trail second
same-answer verdicts rules before change from one other trail second right also = grind arith

-- the caller and the change of a call
record SameAsked (caller other : ℕ) (change also : Change) : Type 0 where
  pub caller_is : caller ≡ other
  pub change_is : change ≡ also

same-asked : (caller other : ℕ) (change also : Change) → asked caller (act.Ask change) ≡ asked other (act.Ask also) → SameAsked caller other change also
same-asked caller other change also is = record { caller_is = cc; change_is = cc }

-- an event is what was called for, and the one right answer to it
same-event : OneVerdict → (rules : Rules) (before : List Event) (one other : Event) → call_of one ≡ call_of other
    → IsRight rules before one → IsPlannedNow before one → IsRight rules before other → IsPlannedNow before other → one ≡ other
same-event verdicts rules before (Submit caller change from verdict trail) (Submit second also later answer plan) calls right now right2 now2 =
    grind (arith, same-asked, same-answer)
same-event verdicts rules before (Submit caller change from verdict trail) (Look second next) calls right now right2 now2 = absurd (cc)
same-event verdicts rules before (Submit caller change from verdict trail) (Open cycle mask) calls right now right2 now2 = absurd (cc)
same-event verdicts rules before (Look caller next) (Submit second also later answer plan) calls right now right2 now2 = absurd (cc)
same-event verdicts rules before (Look caller next) (Look second also) calls right now right2 now2 = grind arith
same-event verdicts rules before (Look caller next) (Open cycle mask) calls right now right2 now2 = absurd (cc)
same-event verdicts rules before (Open cycle mask) (Submit second also later answer plan) calls right now right2 now2 = absurd (cc)
same-event verdicts rules before (Open cycle mask) (Look second next) calls right now right2 now2 = absurd (cc)
same-event verdicts rules before (Open cycle mask) (Open later slots) calls right now right2 now2 = grind arith

record SameHeadAndTail (one other : Call) (calls more : List Call) : Type 0 where
  pub head : one ≡ other
  pub tail : calls ≡ more

same-parts : (one other : Call) (calls more : List Call) → one ∷ calls ≡ other ∷ more → SameHeadAndTail one other calls more
same-parts one other calls more is = record { head = cc; tail = cc }

-- events that answer the first of some calls are the first of the events that answer them all
first-events : OneVerdict → (rules : Rules) (before one other : List Event) (later : List Call)
    → map call_of one ++ later ≡ map call_of other
    → AllAfter (IsRight rules) before one → AllAfter IsPlannedNow before one
    → AllAfter (IsRight rules) before other → AllAfter IsPlannedNow before other → (rest : List Event) × (other ≡ one ++ rest)
first-events verdicts rules before [] other later calls right now right2 now2 = (other, refl)
first-events verdicts rules before (x ∷ xs) [] later calls right now right2 now2 = absurd (cc)
first-events verdicts rules before (x ∷ xs) (y ∷ ys) later calls right now right2 now2 =
    let parts = same-parts (call_of x) (call_of y) (map call_of xs ++ later) (map call_of ys) calls in
    let event : x ≡ y = same-event verdicts rules before x y parts.head right.0 now.0 right2.0 now2.0 in
    let (rest, is) = first-events verdicts rules (before ++ x ∷ []) xs ys later parts.tail right.1 now.1
    (subst (λ e. AllAfter (IsRight rules) (before ++ e ∷ []) ys) (sym event) right2.1)
    (subst (λ e. AllAfter IsPlannedNow (before ++ e ∷ []) ys) (sym event) now2.1) in
    (rest, ap (λ l. y ∷ l) is ∙ ap (λ e. e ∷ (xs ++ rest)) (sym event))

pub first-history : OneVerdict → (rules : Rules) (one other : List Event) (later : List Call)
    → map call_of one ++ later ≡ map call_of other → IsPlainlyLegal rules one → IsPlainlyLegal rules other → (rest : List Event) × (other ≡ one ++ rest)
first-history verdicts rules one other later calls plain plain2 = grind (arith, first-events)

-- where the same calls are answered, no event is left
none-left : (one rest : List Event) → map call_of one ≡ map call_of (one ++ rest) → one ≡ one ++ rest
none-left [] [] calls = refl
none-left [] (y ∷ rest) calls = absurd (cc)
none-left (x ∷ one) rest calls =
    ap (λ l. x ∷ l) (none-left one rest (same-parts (call_of x) (call_of x) (map call_of one) (map call_of (one ++ rest)) calls).tail)

-- after one history the same calls have the same answers
pub same-events : OneVerdict → (rules : Rules) (before one other : List Event) → map call_of one ≡ map call_of other
    → AllAfter (IsRight rules) before one → AllAfter IsPlannedNow before one
    → AllAfter (IsRight rules) before other → AllAfter IsPlannedNow before other → one ≡ other
same-events verdicts rules before one other calls right now right2 now2 =
    let (rest, is) = first-events verdicts rules before one other [] (append-nil (map call_of one) ∙ calls) right now right2 now2 in
    none-left one rest (calls ∙ ap (map call_of) is) ∙ sym is

pub one-history : OneVerdict → (rules : Rules) (one other : List Event) → map call_of one ≡ map call_of other
    → IsPlainlyLegal rules one → IsPlainlyLegal rules other → one ≡ other
one-history verdicts rules one other calls plain plain2 = grind (arith, same-events)

-- a list stands for itself from any cycle on
pub stands-whole : (cycle : ℕ) (list : List Placed) → IsWellPlaced list → StandsFor cycle list list
stands-whole cycle list well = record { well_placed = well; instances = λ slot at later. refl }

-- what stands for a list from a cycle on stands for it from each later one on
pub stands-later : (cycle later : ℕ) (whole list : List Placed) → cycle ≤ later → StandsFor cycle whole list → StandsFor later whole list
stands-later cycle later whole list after stands = grind arith
