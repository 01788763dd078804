-- A list, a change and a state have one verdict.
use Rattle.std.proofs.Common.{◌≡◌, ℕ, ◌+◌, ◌<◌, ◌≤◌, Some, List, [], slice_get, refl, sym, ap, ◌∙◌, subst, arith, ⊎_elim}
use Rattle.std.proofs.lemmas.Bool.{cases_order}
use Rattle.std.proofs.lemmas.Option.{same_Some}
use Rattle.requirement_table.specs.declared.entries.Placed.{Placed}
use Rattle.requirement_table.specs.Table.{IsWellPlaced}
use Rattle.change_protocol.specs.declared.operations.Change.{Change}
use Rattle.change_protocol.specs.declared.malformed.Why.{Why}
use Rattle.change_protocol.specs.Applied.{applied}
use Rattle.change_protocol.specs.Malformed.{Broken, IsWellFormed, broken, first_fault}
use Rattle.planner_policies.specs.Plan.{HasNoMiss, IsFirstMiss, IsMissAt, NeverMisses, Planning}
use Rattle.admission_rules.specs.declared.Rules.{Rules}
use Rattle.admission.specs.declared.verdict.Verdict.{Verdict}
use Rattle.admission.specs.declared.verdict.Verdict.TheVariants.{Malformed, Passed, Miss, Horizon, Accepted}
use Rattle.admission.specs.Recurrence.{AreAlike, HasNoRecurrence, IsRecurrence}
use Rattle.admission.specs.Verdict.{IsInTime, IsVerdict, IsVerdictOnPlan, bounds_by, plan_from}
use Rattle.admission.proofs.Repeats.{alike-never, least-same}

pub no-fault : (xs : List Broken) (b : Broken) → xs ≡ [] → slice_get xs 0 ≡ Some b → ⊥
no-fault xs b none some = grind (arith, slice_get)

-- first misses

not-both : (plan : Planning) (n m slot release : ℕ) → n < m → IsMissAt plan n slot release → HasNoMiss plan m → ⊥
not-both plan n m slot release before miss none = grind arith

same-number : (plan : Planning) (one other a b c d : ℕ) → IsMissAt plan one a b → HasNoMiss plan one → IsMissAt plan other c d → HasNoMiss plan other
    → one ≡ other
same-number plan one other a b c d first clear second free = grind (arith, not-both, cases_order)

same-slot : (plan : Planning) (n one other b d : ℕ) → IsMissAt plan n one b → IsMissAt plan n other d → one ≡ other
same-slot plan n one other b d first second = grind (arith, cases_order)

same-release : (plan : Planning) (n slot b d : ℕ) → IsMissAt plan n slot b → IsMissAt plan n slot d → b ≡ d
same-release plan n slot b d first second = grind (arith, same_Some)

same-miss : (plan : Planning) (a b c d e f : ℕ) → IsFirstMiss plan a b c → IsFirstMiss plan d e f → Miss a b c ≡ Miss d e f
same-miss plan a b c d e f first second = grind (arith, same-number, same-slot, same-release)

miss-and-none : (plan : Planning) (horizon a b c : ℕ) → IsFirstMiss plan a b c → c < plan.from + horizon → HasNoMiss plan horizon → ⊥
miss-and-none plan horizon a b c first within none = grind (arith, not-both)

-- recurrences

recurrence-and-none : (plan : Planning) (horizon first length : ℕ) → IsRecurrence plan first length → first + length ≤ plan.from + horizon
    → HasNoRecurrence plan horizon → ⊥
recurrence-and-none plan horizon first length is within none = grind arith

no-earlier : (plan : Planning) (first length again n : ℕ) (is : IsRecurrence plan first length) → again < n → n < is.number + length
    → AreAlike plan is.period again (is.number + length) → AreAlike plan is.period n (is.number + length) → ⊥
no-earlier plan first length again n is before within one other = grind arith

same-recurrence : (plan : Planning) (a b c d : ℕ) → IsRecurrence plan a b → IsRecurrence plan c d → Accepted a b ≡ Accepted c d
same-recurrence plan a b c d first second =
    let period : second.period ≡ first.period = least-same plan.placed second.period first.period second.least_common first.least_common in
    let other : AreAlike plan first.period second.number (second.number + d) =
    subst (λ p. AreAlike plan p second.number (second.number + d)) period second.alike in
    let one : AreAlike plan second.period first.number (first.number + b) =
    subst (λ p. AreAlike plan p first.number (first.number + b)) (sym period) first.alike in
    let some = first.some_cycles in
    let more = second.some_cycles in
    let below = first.least second.number (second.number + d) (omega arith) other in
    let above = second.least first.number (first.number + b) (omega arith) one in
    let ends : second.number + d ≡ first.number + b = omega arith in
    let there : AreAlike plan first.period second.number (first.number + b) =
    subst (λ n. AreAlike plan first.period second.number n) ends other in
    let number : first.number ≡ second.number =
    ⊎_elim
    (λ (same : first.number ≡ second.number). same)
    (⊎_elim
    (λ (before : first.number < second.number).
    absurd (no-earlier plan a b first.number second.number first before (omega arith) first.alike there))
    (λ (behind : second.number < first.number).
    absurd (no-earlier plan a b second.number first.number first behind (omega arith) there first.alike)))
    (cases_order first.number second.number) in
    let at : a ≡ c = first.at ∙ ap (λ n. plan.from + n) number ∙ sym second.at in
    let length : b ≡ d = omega arith in
    ap (λ (n : ℕ). Accepted n b) at ∙ ap (λ (n : ℕ). Accepted c n) length

-- a planning has one verdict within the horizon

same-horizon : (a b c d : ℕ) → a ≡ c → b ≡ d → Horizon a b ≡ Horizon c d
same-horizon a b c d first second = ap (λ (n : ℕ). Horizon n b) first ∙ ap (λ (n : ℕ). Horizon c n) second

one-on-plan : (horizon : ℕ) (plan : Planning) (one other : Verdict) → IsVerdictOnPlan horizon plan one → IsVerdictOnPlan horizon plan other → one ≡ other
one-on-plan horizon plan (Malformed op why) other first second = absurd first
one-on-plan horizon plan (Passed start next) other first second = absurd first
one-on-plan horizon plan (Miss a b c) (Malformed op why) first second = absurd second
one-on-plan horizon plan (Miss a b c) (Passed start next) first second = absurd second
one-on-plan horizon plan (Miss a b c) (Miss d e f) first second = same-miss plan a b c d e f first.0 second.0
one-on-plan horizon plan (Miss a b c) (Horizon d e) first second = absurd (miss-and-none plan horizon a b c first.0 first.1 second.0)
one-on-plan horizon plan (Miss a b c) (Accepted d e) first second = absurd (miss-and-none plan horizon a b c first.0 first.1 second.0)
one-on-plan horizon plan (Horizon a b) (Malformed op why) first second = absurd second
one-on-plan horizon plan (Horizon a b) (Passed start next) first second = absurd second
one-on-plan horizon plan (Horizon a b) (Miss d e f) first second = absurd (miss-and-none plan horizon d e f second.0 second.1 first.0)
one-on-plan horizon plan (Horizon a b) (Horizon c d) first second = same-horizon a b c d (first.2 ∙ sym second.2) (first.3 ∙ sym second.3)
one-on-plan horizon plan (Horizon a b) (Accepted c d) first second = absurd (recurrence-and-none plan horizon c d second.1 second.2 first.1)
one-on-plan horizon plan (Accepted a b) (Malformed op why) first second = absurd second
one-on-plan horizon plan (Accepted a b) (Passed start next) first second = absurd second
one-on-plan horizon plan (Accepted a b) (Miss d e f) first second = absurd (miss-and-none plan horizon d e f second.0 second.1 first.0)
one-on-plan horizon plan (Accepted a b) (Horizon c d) first second = absurd (recurrence-and-none plan horizon a b first.1 first.2 second.1)
one-on-plan horizon plan (Accepted a b) (Accepted c d) first second = same-recurrence plan a b c d first.1 second.1

-- a change is malformed, has passed, or is planned

pub data Kind (rules : Rules) (placed : List Placed) (pending from next : ℕ) (change : Change) (verdict : Verdict) : Type 0 where
  faulty : (op : ℕ) (why : Why) → verdict ≡ Malformed op why → first_fault placed (bounds_by rules) change ≡ Some (broken op why)
      → Kind rules placed pending from next change verdict
  late : verdict ≡ Passed change.start next → IsWellFormed placed (bounds_by rules) change → change.start < next
      → Kind rules placed pending from next change verdict
  planned : IsInTime rules placed next change → IsVerdictOnPlan rules.horizon (plan_from rules (applied placed change) from pending) verdict
      → Kind rules placed pending from next change verdict

module _ (rules : Rules) (placed : List Placed) (pending from next : ℕ) (change : Change) where
  kind : (verdict : Verdict) → IsVerdict rules placed pending from next change verdict → Kind rules placed pending from next change verdict
  kind (Malformed op why) is = faulty op why refl is
  kind (Passed start opened) is = grind arith
  kind (Miss a b c) is = planned is.0 is.1
  kind (Horizon a b) is = planned is.0 is.1
  kind (Accepted a b) is = planned is.0 is.1

  by-kind : (one other : Verdict) → Kind rules placed pending from next change one → Kind rules placed pending from next change other → one ≡ other
  by-kind one other h0 h1 = grind (arith, same_Some, no-fault, one-on-plan)

  pub only-verdict : (one other : Verdict) → IsVerdict rules placed pending from next change one → IsVerdict rules placed pending from next change other
      → one ≡ other
  only-verdict one other first second = by-kind one other (kind one first) (kind other second)

-- a repeat without a miss

pub repeat-never : (plan : Planning) (first length n : ℕ) → IsWellPlaced plan.placed → IsRecurrence plan first length
    → first + length ≤ plan.from + n → HasNoMiss plan n → NeverMisses plan
repeat-never plan first length n well is within none = grind (arith, alike-never)
