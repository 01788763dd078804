-- A change that was planned apart from all placed entries is answered by a core that keeps these pruned.
use Rattle.std.proofs.Common.{◌≡◌, ℕ, Bool, true, List, Option, Some, None, All, option_map, sym, ap, ◌∙◌, subst, arith}
use Rattle.std.proofs.lemmas.Bool.{eq-eqb, ne_eqb}
use mathlib.Core.List.{IsPrefix}
use Rattle.requirement_table.specs.declared.entries.Placed.{Placed}
use Rattle.change_protocol.specs.declared.operations.Change.{Change}
use Rattle.change_protocol.specs.Applied.{applied}
use Rattle.change_protocol.specs.Operations.{HasTypes}
use Rattle.change_protocol.specs.Pruned.{pruned}
use Rattle.change_protocol.proofs.Shared.{not_over-pruned, pruned-again}
use Rattle.planner_policies.specs.Plan.{pending_at}
use Rattle.admission_rules.specs.declared.Rules.{Rules}
use Rattle.admission.specs.declared.decision.Decision.{Decision}
use Rattle.admission.specs.Verdict.{IsDecision, IsVerdict, placed_with}
use Rattle.master_core.specs.declared.answer.Answer.{Answer}
use Rattle.master_core.specs.declared.answer.Made.{Made}
use Rattle.master_core.specs.declared.apart.Snapshot.{Snapshot}
use Rattle.master_core.specs.declared.event.Event.{Event}
use Rattle.master_core.specs.Answers.{AreKept, AreMadeAs, AreTablesOf, IsAnswerAs, IsPlannedFrom, answer_at, decision_of}
use Rattle.master_core.specs.Apart.{CanSettle, IsPlanOf, PlannedView, from_of, snapshot_of}
use Rattle.master_core.specs.Cores.{CoreView, IsCore, IsPrunedBefore, IsStateAs}
use Rattle.master_core.specs.History.{IsRightAnswer, accepted_of, next_of, placed_of, plan_of}
use Rattle.master_core.specs.Kept.{IsSettledAs, state_after}
use Rattle.admission.proofs.Shared.{verdict-fewer}
use Rattle.master_core.proofs.KeptPlans.{answered-anew, decided-then, early-then, settled-at, since-here, trail-then, whole-is}
use Rattle.master_core.proofs.Legal.{sound-of_legal}
use Rattle.master_core.proofs.Settling.{refused-is, taken-is}

-- what is made of the whole list is made of the pruned one, once it is pruned
whole-made : (core : CoreView) (whole : List Placed) (answer : Answer) → IsPrunedBefore answer.from whole core.placed → (plain made : Option Made)
    → option_map (λ m. m.learned) plain ≡ placed_with (applied whole answer.change) answer.verdict → AreTablesOf core.rules answer.from plain
    → AreKept true answer.from plain made → AreMadeAs true core answer made
whole-made core whole answer held None None none tables kept = refused-is (applied whole answer.change) answer.verdict (sym none)
whole-made core whole answer held None (Some made) none tables kept = absurd kept
whole-made core whole answer held (Some plain) None some tables kept = absurd kept
whole-made core whole answer held (Some plain) (Some made) some tables kept =
    let taken = taken-is (applied whole answer.change) plain.learned answer.verdict (sym some) in
    record {
      accepted = taken.0;
      placed =
          kept.placed
          ∙ ap (pruned answer.from) (tables.placed ∙ sym taken.1)
          ∙ sym (ap (λ (l : List Placed). pruned answer.from (applied l answer.change)) held.is ∙ pruned-again held.by answer.from whole answer.change held.early);
      since = kept.since ∙ tables.since;
      ranked = grind (arith, not_over-pruned);
      learned = kept.learned ∙ sym (kept.placed ∙ ap (pruned answer.from) tables.placed);
    }

module _ (core : CoreView) (is : IsCore core) (history : List Event) (of : IsStateAs true history core) (change : Change) (planned : PlannedView) (by : Rules) (accepted : ℕ)
    (answer : Answer) (view_is : record { rules = by; accepted = accepted; change = answer.change; from = answer.from; decision = decision_of answer } ≡ planned)
    (types : All HasTypes answer.change.ops) (tables : AreTablesOf by answer.from answer.made) (snapshot : Snapshot) (plan_is : IsPlanOf snapshot change planned)
    (front : List Event) (begins : IsPrefix front history) (here : snapshot ≡ snapshot_of core.rules front) (counted : accepted ≡ accepted_of history)
    (held : IsPrunedBefore planned.from (placed_of history) core.placed) where
  abbrev whole : List Placed
  whole = placed_of history

  plan : IsPlanOf (snapshot_of core.rules front) change planned
  plan = subst (λ (s : Snapshot). IsPlanOf s change planned) here plan_is

  count : accepted_of front ≡ accepted_of history
  count = sym plan.accepted ∙ sym (ap (λ (v : PlannedView). v.accepted) view_is) ∙ counted

  was : IsPlannedFrom core.rules (placed_of front) (state_after core.rules front) answer
  was = record {
    types = types;
    from = ap (λ (v : PlannedView). v.from) view_is ∙ plan.from;
    decided =
        subst (λ (d : Decision). IsDecision core.rules (placed_of front) (state_after core.rules front).pending (next_of front) answer.change d)
        (sym (ap (λ (v : PlannedView). v.decision) view_is))
        (subst (λ (ch : Change). IsDecision core.rules (placed_of front) (state_after core.rules front).pending (next_of front) ch planned.decision)
        (sym plan.asked ∙ sym (ap (λ (v : PlannedView). v.change) view_is)) plan.decided);
    made = subst (λ (r : Rules). AreTablesOf r answer.from answer.made) (ap (λ (v : PlannedView). v.rules) view_is ∙ plan.rules) tables;
  }

  on-whole : IsPlannedFrom core.rules whole (state_after core.rules front) answer
  on-whole = subst (λ (l : List Placed). IsPlannedFrom core.rules l (state_after core.rules front) answer) (whole-is core is history of answer front begins count was.from) was

  held-then : IsPrunedBefore answer.from whole core.placed
  held-then = subst (λ (n : ℕ). IsPrunedBefore n whole core.placed) (sym (ap (λ (v : PlannedView). v.from) view_is)) held

  abbrev set : ℕ
  set = pending_at (plan_of core.rules whole) answer.from

  right : IsVerdict core.rules whole set answer.from answer.from answer.change answer.verdict
  right = decided-then core is history of answer front begins count was.from whole on-whole.decided.answer

  decided : IsVerdict core.rules core.placed set answer.from answer.from answer.change answer.verdict
  decided = grind (arith, held-then, verdict-fewer, sound-of_legal, right)

  first-is : answer.from ≡ from_of history planned
  first-is = grind (arith, eq-eqb)

  pub whole-by_plan : (made : Option Made) → AreKept true (answer_at core.cycle answer).from (answer_at core.cycle answer).made made
      → IsSettledAs history core change (from_of history planned) (record (answer_at core.cycle answer) { made = made })
  whole-by_plan made kept =
      subst (λ (n : ℕ). IsSettledAs history core change n (record (answer_at core.cycle answer) { made = made })) first-is
      (subst (λ (ch : Change). IsSettledAs history core ch answer.from (record (answer_at core.cycle answer) { made = made }))
      (ap (λ (v : PlannedView). v.change) view_is ∙ plan.asked)
      (settled-at core is history of answer types (early-then core is history of answer front begins count was.from)
      (since-here core is history of answer front begins count was.from) held-then decided right
      (trail-then core is history of answer front begins count was.from whole on-whole.decided.plan)
      (λ m by. whole-made core whole (record answer { made = m }) held-then answer.made m on-whole.decided.list on-whole.made by) made kept))

-- a plan over all placed entries is settled by that plan
pub whole-settled : (core : CoreView) → IsCore core → (planned : PlannedView) (by : Rules) (accepted : ℕ) (answer : Answer)
    → record { rules = by; accepted = accepted; change = answer.change; from = answer.from; decision = decision_of answer } ≡ planned → All HasTypes answer.change.ops
    → AreTablesOf by answer.from answer.made → accepted ≡ core.accepted → (made : Option Made)
    → AreKept true (answer_at core.cycle answer).from (answer_at core.cycle answer).made made → (history : List Event) (change : Change) → IsStateAs true history core
    → CanSettle core.rules history change planned → (planned.accepted ≡ accepted_of history → IsPrunedBefore planned.from (placed_of history) core.placed)
    → IsSettledAs history core change (from_of history planned) (record (answer_at core.cycle answer) { made = made })
whole-settled core is planned by accepted answer view_is types tables same made kept history change of can held =
    let counted = same ∙ of.counted in
    let told : planned.accepted ≡ accepted_of history = sym (ap (λ (v : PlannedView). v.accepted) view_is) ∙ counted in
    let (front, begins, here) = can.place (sym can.plan.accepted ∙ told) in
    whole-by_plan core is history of change planned by accepted answer view_is types tables can.snapshot can.plan front begins here counted (held told) made kept

-- and it is planned anew where another change was accepted since
pub whole-anew : (core : CoreView) → IsCore core → (planned : PlannedView) (change : Change) (anew : Answer) → (planned.accepted ≡ core.accepted → ⊥) → IsAnswerAs true core anew
    → anew.change ≡ change → anew.from ≡ core.cycle
    → ((held : Bool) (history : List Event) → IsStateAs held history core → IsRightAnswer core.rules history anew.change anew.from anew.verdict anew.trail)
    → (history : List Event) → IsStateAs true history core → IsSettledAs history core change (from_of history planned) anew
whole-anew core is planned change anew apart to asked from_is right history of =
    answered-anew core is history of change (from_of history planned) anew to asked from_is
    (grind (arith, ne_eqb))
    (right true history of)
