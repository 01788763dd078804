-- The last event of a legal history is right, and there is one verdict.
use Rattle.std.proofs.Common.{[]}
use Rattle.planner_policies.specs.Plan.{pending_at}
use Rattle.admission.specs.declared.verdict.Verdict.TheVariants.{Accepted}
use Rattle.master_core.specs.declared.event.Event.TheVariants.{Submit}
use Rattle.master_core.specs.History.{IsRight, next_of, placed_of, plan_of}
use Rattle.elastic.specs.Combination.{change_of}
use Rattle.elastic.proofs.LastEvent.{last_holds}
use Rattle.elastic.proofs.laws.chosen_is_answered.Goals as goal

pub returns : goal.returns
returns c =
    record {
      answered = λ rules history wish choice caller verdict trail is legal.
          let change = change_of wish choice.number in
          let right : IsRight rules history (Submit caller change (next_of history) verdict trail) = last_holds (IsRight rules) [] history (Submit caller change (next_of history) verdict trail) legal in
          c.one_verdict.ensures.same rules (placed_of history) (pending_at (plan_of rules (placed_of history)) (next_of history)) (next_of history) (next_of history)
          change verdict (Accepted choice.first choice.length) right.answer is.accepted;
    }
