use Rattle.std.proofs.Common.{◌+◌, ◌<◌, ◌-◌, Ok, Err, arith, subst, sym, refl, ap, ◌∙◌, ◌++◌, ◌∷◌, []}
use Rattle.recurrence_check.specs.Ends.{IsFirstRepeat}
use Rattle.recurrence_check.specs.declared.walk_end.WalkEnd.TheVariants.{Broken, NoRepeat}
use Rattle.recurrence_check.proofs.Walking.{Walking, Walking-start, Walking-breaks, Walking-stays}
use Rattle.recurrence_check.proofs.Listed.{Listed, Listed-start, Searching, Searching-listed, Searching-good, Searching-found, Searching-first, Searching-next}
use Rattle.recurrence_check.proofs.Answering.{only_answer}
use Rattle.recurrence_check.proofs.compared.lasso.Goals as goal
use Rattle.recurrence_check.proofs.compared.lasso.Goals.{After-deref, In-Some-first_same}
use Rattle.recurrence_check.proofs.compared.lasso.Given.{Over}

-- at the comparison, the walk goes on behind the listed states
searching : (g : Over) (c : After-deref g)
    → Searching (g.W.Walk.course c.args.walk.now) (g.W.Walk.is_good c.args.walk.now)
    (g.W.Walk.number c.args.walk.now) c.loop-walked.walked (g.W.Walk.state_of c.loop-walked.here) c.in-Some.next
    c.loop-walked.earlier.items c.deref.result.now
searching g c = record {
  walking = c.loop-walked.invariant.walking;
  listed = c.loop-walked.invariant.listed;
  pushed = c.deref.ensures.value ∙ c.in_ok-push.ensures.items ∙ ap (λ state. c.loop-walked.earlier.items ++ state ∷ []) c.state.ensures.state;
  goes_on = c.in-Some.ensures.next;
}

-- where an earlier state is the same, the walk has its first repeat
found : (g : Over) (c : In-Some-first_same g)
    → IsFirstRepeat (g.W.Walk.course c.args.walk.now) c.args.horizon (record {
      first = c.in-Some-first_same.first;
      length = c.loop-walked.walked + 1 - c.in-Some-first_same.first;
    })
found g c =
    Searching-first _ _ _ _ _ _ _ _ (searching g (goal.at.overflow_sub-result g c).After-deref)
    c.in-Some-first_same.first c.args.horizon (omega arith) c.in-Some-first_same.ensures.first

pub loop-walked-init : goal.loop-walked-init
loop-walked-init g c =
    let walk = c.args.walk.now in
    let course = g.W.Walk.course walk in
    let begun = c.in_ok-here.ensures in
    record {
      walking = Walking-start course (g.W.Walk.is_good walk) (g.W.Walk.number walk) (g.W.Walk.state_of c.in_ok-here.here) begun.start
          begun.good begun.number;
      listed = subst (λ states. Listed course states 0) (sym c.new-earlier.ensures.items) (Listed-start course);
      on = begun.on;
    }

pub first_same-requires-clause-good : goal.first_same-requires-clause-good
first_same-requires-clause-good g c = λ k one stands.
    let below : c.loop-walked.walked < 100000 = omega arith in
    let at = searching g (goal.at.first_same-requires-clause-good g c).After-deref in
    Searching-good _ _ _ _ _ _ _ _ at k one stands below

pub overflow_sub-result : goal.overflow_sub-result
overflow_sub-result g c =
    let at = searching g (goal.at.overflow_sub-result g c).After-deref in
    let repeats = Searching-found _ _ _ _ _ _ _ _ at c.in-Some-first_same.first c.in-Some-first_same.ensures.first in
    let order : c.in-Some-first_same.first < c.loop-walked.walked + 1 = repeats.order in
    omega arith

pub returns-in-Some-first_same-clause-repeat : goal.returns-in-Some-first_same-clause-repeat
returns-in-Some-first_same-clause-repeat g c =
    let first = found g (goal.at.returns-in-Some-first_same-clause-repeat g c).In-Some-first_same in
    first.1

pub returns-in-Some-first_same-clause-within : goal.returns-in-Some-first_same-clause-within
returns-in-Some-first_same-clause-within g c =
    let first = found g (goal.at.returns-in-Some-first_same-clause-within g c).In-Some-first_same in
    first.0

pub returns-in-Some-first_same-clause-only : goal.returns-in-Some-first_same-clause-only
returns-in-Some-first_same-clause-only g c = λ other.
    let first = found g (goal.at.returns-in-Some-first_same-clause-only g c).In-Some-first_same in
    only_answer (g.W.Walk.course c.args.walk.now) c.args.horizon (Ok _) other first

pub returns-in_default-clause-only : goal.returns-in_default-clause-only
returns-in_default-clause-only g c = λ other.
    let breaks = Walking-breaks _ _ _ c.loop-walked.walked (g.W.Walk.state_of c.loop-walked.here) c.loop-walked.invariant.walking
    c.in_default.ensures.next in
    only_answer (g.W.Walk.course c.args.walk.now) c.args.horizon (Err (Broken c.loop-walked.walked)) other
    (omega arith, breaks)

pub loop-walked-preserved : goal.loop-walked-preserved
loop-walked-preserved g c =
    let at = searching g (goal.at.loop-walked-preserved g c).After-deref in
    record {
      walking = subst (λ state. Walking (g.W.Walk.course c.args.walk.now) (g.W.Walk.is_good c.args.walk.now)
          (g.W.Walk.number c.args.walk.now) (c.loop-walked.walked + 1) state) c.in-Some.ensures.here
          (Searching-next _ _ _ _ _ _ _ _ at c.in-Some.ensures.good c.in-Some.ensures.number
          c.in_default-first_same.ensures.first);
      listed = rw (c.deref.ensures.value) at (Searching-listed _ _ _ _ _ _ _ _ at);
      on = c.in-Some.ensures.on;
    }

pub returns-clause-ends : goal.returns-clause-ends
returns-clause-ends g c = (
  refl,
  Walking-stays _ _ _ c.loop-walked.walked c.args.horizon (g.W.Walk.state_of c.loop-walked.here) c.loop-walked.invariant.walking
      (omega arith),
)

pub returns-clause-only : goal.returns-clause-only
returns-clause-only g c = λ other.
    let stays = Walking-stays _ _ _ c.loop-walked.walked c.args.horizon (g.W.Walk.state_of c.loop-walked.here)
    c.loop-walked.invariant.walking (omega arith) in
    only_answer (g.W.Walk.course c.args.walk.now) c.args.horizon (Err (NoRepeat c.args.horizon)) other (refl, stays)
