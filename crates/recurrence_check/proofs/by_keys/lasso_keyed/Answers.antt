use Rattle.std.proofs.Common.{◌≡◌, ◌+◌, ◌-◌, ◌<◌, Ok, Err, arith, refl, ap, ◌∙◌}
use Rattle.std.specs.BTreeMap.{get}
use Rattle.recurrence_check.specs.Ends.{IsFirstRepeat}
use Rattle.recurrence_check.specs.declared.walk_end.WalkEnd.TheVariants.{Broken, NoRepeat}
use Rattle.recurrence_check.specs.Keys.{table}
use Rattle.recurrence_check.proofs.Walking.{Walking-start, Walking-breaks, Walking-stays}
use Rattle.recurrence_check.proofs.Noted.{Meets-empty, Noted-start, Meeting, Meeting-found, Meeting-first, key_cmp}
use Rattle.recurrence_check.proofs.Stretched.{Stretching, stretching-behind, met-first, met-none, met-order}
use Rattle.recurrence_check.proofs.Answering.{only_answer}
use Rattle.recurrence_check.proofs.by_keys.lasso_keyed.Goals as goal
use Rattle.recurrence_check.proofs.by_keys.lasso_keyed.Goals.{In_ok-first, In_ok-met, In-Some-2, In-Some-3}
use Rattle.recurrence_check.proofs.by_keys.lasso_keyed.Given.{Over}

-- once the key of the next state was looked up
meeting : (g : Over) (c : In_ok-first g)
    → Meeting (g.W.Walk.course c.args.walk.now) (g.W.Keyed.key_of c.args.walk.now)
    (g.W.Walk.is_good c.args.walk.now) (g.W.Walk.number c.args.walk.now) c.loop-walked.walked (g.W.Walk.state_of c.loop-walked.here)
    c.in-Some.next (table c.loop-walked.row.items (get key_cmp c.loop-walked.others))
    (table c.meet-in-loop-walked.new.row.items (get key_cmp c.meet-in-loop-walked.new.others))
    c.key-in-loop-walked.result c.in_ok-first.field-0
meeting g c = record {
  tells = g.met.W.Keyed.keyed c.args.walk.now;
  below = omega (arith, c.loop-walked-test.true, c.requires.horizon);
  walking = c.loop-walked.invariant.walking;
  noted = c.loop-walked.invariant.noted;
  goes_on = c.in-Some.ensures.next;
  good = c.in-Some.ensures.good;
  number_is = c.in-Some.ensures.number;
  key_is = c.key-in-loop-walked.ensures.key;
  met = c.in_ok-first.ensures.met;
}

-- where the key stood in the table, the walk has its first repeat
found : (g : Over) (c : In-Some-2 g)
    → IsFirstRepeat (g.W.Walk.course c.args.walk.now) c.args.horizon (record {
      first = c.in-Some-2.first;
      length = c.loop-walked.walked + 1 - c.in-Some-2.first;
    })
found g c =
    Meeting-first _ _ _ _ _ _ _ _ _ _ _ (meeting g (goal.at.overflow_sub-result g c).In_ok-first)
    c.in-Some-2.first c.args.horizon (omega (arith, c.loop-walked-test.true)) c.in-Some-2.is

-- where none stood, a stretch of states is passed
stretching : (g : Over) (c : In_ok-met g)
    → Meeting (g.W.Walk.course c.args.walk.now) (g.W.Keyed.key_of c.args.walk.now)
    (g.W.Walk.is_good c.args.walk.now) (g.W.Walk.number c.args.walk.now) c.loop-walked.walked (g.W.Walk.state_of c.loop-walked.here)
    c.in-Some.next (table c.loop-walked.row.items (get key_cmp c.loop-walked.others))
    (table c.meet-in-loop-walked.new.row.items (get key_cmp c.meet-in-loop-walked.new.others))
    c.key-in-loop-walked.result c.in_ok-first.field-0
    → Stretching (g.W.Walk.course c.args.walk.now) (g.W.Keyed.key_of c.args.walk.now)
    (g.W.Walk.is_good c.args.walk.now) (g.W.Walk.number c.args.walk.now) (c.loop-walked.walked + 1)
    (g.W.Walk.state_of c.step.new.here) (g.W.Walk.state_of c.pass-steps.new.here) c.pass-steps.result.steps c.pass-steps.result.key
    (table c.meet-in-loop-walked.new.row.items (get key_cmp c.meet-in-loop-walked.new.others))
stretching g c at =
    stretching-behind _ _ _ _ _ _ _ _ _ _ _ _ _ _ _ at c.in_default-2.is c.in-Some.ensures.here
    (omega (arith, c.loop-walked-test.true, c.pass-steps.ensures.most, c.requires.horizon)) c.pass-steps.ensures.stretch

-- where one of their keys stood in the table, the walk has its first repeat
found_passed : (g : Over) (c : In-Some-3 g)
    → Stretching (g.W.Walk.course c.args.walk.now) (g.W.Keyed.key_of c.args.walk.now)
    (g.W.Walk.is_good c.args.walk.now) (g.W.Walk.number c.args.walk.now) (c.loop-walked.walked + 1)
    (g.W.Walk.state_of c.step.new.here) (g.W.Walk.state_of c.pass-steps.new.here) c.pass-steps.result.steps c.pass-steps.result.key
    (table c.meet-in-loop-walked.new.row.items (get key_cmp c.meet-in-loop-walked.new.others))
    → IsFirstRepeat (g.W.Walk.course c.args.walk.now) c.args.horizon (record {
      first = c.in-Some-3.met.first;
      length = c.loop-walked.walked + 1 + 1 + c.in-Some-3.met.behind - c.in-Some-3.met.first;
    })
found_passed g c at =
    met-first _ _ _ _ _ _ _ _ _ _ at _ _ c.in_ok-met.ensures.met c.in-Some-3.met c.args.horizon c.in-Some-3.is
    (omega (arith, c.loop-walked-test.true, c.pass-steps.ensures.most))

pub loop-walked-init : goal.loop-walked-init
loop-walked-init g c =
    let walk = c.args.walk.now in
    let course = g.W.Walk.course walk in
    let begun = c.in_ok-here.ensures in
    let key_is : c.key.result ≡ g.W.Keyed.key_of walk (g.W.Walk.state_of c.in_ok-here.here) =
    c.key.ensures.key ∙ ap (g.W.Keyed.key_of walk) c.state-first.ensures.state in
    record {
      walking = Walking-start course (g.W.Walk.is_good walk) (g.W.Walk.number walk) (g.W.Walk.state_of c.in_ok-here.here) begun.start
          begun.good begun.number;
      noted = Noted-start course (g.W.Keyed.key_of walk) (table c.in_ok-row.row.items (get key_cmp c.new-others.result))
          (table c.meet.new.row.items (get key_cmp c.meet.new.others)) (g.W.Walk.state_of c.in_ok-here.here) c.key.result c.in_ok-meet.field-0 begun.start
          key_is (λ key. rw (c.in_ok-row.ensures.items, c.new-others.ensures.empty)) c.in_ok-meet.ensures.met;
      sparse = c.in_ok-meet.ensures.sparse
          (Meets-empty (table c.in_ok-row.row.items (get key_cmp c.new-others.result)) _ c.key.result 0 c.in_ok-meet.field-0 (λ key. rw (c.in_ok-row.ensures.items, c.new-others.ensures.empty)) c.in_ok-meet.ensures.met);
      on = begun.on;
      within = omega arith;
    }

pub overflow_sub-result : goal.overflow_sub-result
overflow_sub-result g c =
    let at = meeting g (goal.at.overflow_sub-result g c).In_ok-first in
    let repeats = Meeting-found _ _ _ _ _ _ _ _ _ _ _ at c.in-Some-2.first c.in-Some-2.is in
    let order : c.in-Some-2.first < c.loop-walked.walked + 1 = repeats.order in
    omega arith

pub returns-in-Some-2-clause-repeat : goal.returns-in-Some-2-clause-repeat
returns-in-Some-2-clause-repeat g c =
    let first = found g (goal.at.returns-in-Some-2-clause-repeat g c).In-Some-2 in
    first.1

pub returns-in-Some-2-clause-within : goal.returns-in-Some-2-clause-within
returns-in-Some-2-clause-within g c =
    let first = found g (goal.at.returns-in-Some-2-clause-within g c).In-Some-2 in
    first.0

pub returns-in-Some-2-clause-only : goal.returns-in-Some-2-clause-only
returns-in-Some-2-clause-only g c = λ other.
    let first = found g (goal.at.returns-in-Some-2-clause-only g c).In-Some-2 in
    only_answer (g.W.Walk.course c.args.walk.now) c.args.horizon (Ok _) other first

pub returns-in_default-clause-only : goal.returns-in_default-clause-only
returns-in_default-clause-only g c = λ other.
    let breaks = Walking-breaks _ _ _ c.loop-walked.walked (g.W.Walk.state_of c.loop-walked.here) c.loop-walked.invariant.walking
    c.in_default.ensures.next in
    only_answer (g.W.Walk.course c.args.walk.now) c.args.horizon (Err (Broken c.loop-walked.walked)) other
    (omega (arith, c.loop-walked-test.true), breaks)

pub overflow_sub-result-in-Some-3 : goal.overflow_sub-result-in-Some-3
overflow_sub-result-in-Some-3 g c =
    let at = goal.at.overflow_sub-result-in-Some-3 g c in
    let order = met-order _ _ _ _ _ _ _ _ _ _ (stretching g at.In_ok-met (meeting g at.In_ok-first)) _ _ c.in_ok-met.ensures.met c.in-Some-3.met c.in-Some-3.is in
    omega (arith, order)

pub returns-in-Some-3-clause-repeat : goal.returns-in-Some-3-clause-repeat
returns-in-Some-3-clause-repeat g c =
    let at = goal.at.returns-in-Some-3-clause-repeat g c in
    let first = found_passed g at.In-Some-3 (stretching g at.In_ok-met (meeting g at.In_ok-first)) in
    first.1

pub returns-in-Some-3-clause-within : goal.returns-in-Some-3-clause-within
returns-in-Some-3-clause-within g c =
    let at = goal.at.returns-in-Some-3-clause-within g c in
    let first = found_passed g at.In-Some-3 (stretching g at.In_ok-met (meeting g at.In_ok-first)) in
    first.0

pub returns-in-Some-3-clause-only : goal.returns-in-Some-3-clause-only
returns-in-Some-3-clause-only g c = λ other.
    let at = goal.at.returns-in-Some-3-clause-only g c in
    let first = found_passed g at.In-Some-3 (stretching g at.In_ok-met (meeting g at.In_ok-first)) in
    only_answer (g.W.Walk.course c.args.walk.now) c.args.horizon (Ok _) other first

pub loop-walked-preserved : goal.loop-walked-preserved
loop-walked-preserved g c =
    let at = goal.at.loop-walked-preserved g c in
    let ends = met-none _ _ _ _ _ _ _ _ _ _ (stretching g at.In_ok-met (meeting g at.In_ok-first)) _ _ c.in_ok-met.ensures.met c.in_default-3.is in
    record {
      walking = ends.0;
      noted = ends.1;
      sparse = c.in_ok-met.ensures.sparse c.in_default-3.is;
      on = c.pass-steps.ensures.on;
      within = omega (arith, c.loop-walked-test.true, c.pass-steps.ensures.most);
    }

pub returns-clause-only : goal.returns-clause-only
returns-clause-only g c = λ other.
    let stays = Walking-stays _ _ _ c.loop-walked.walked c.args.horizon (g.W.Walk.state_of c.loop-walked.here)
    c.loop-walked.invariant.walking (omega (arith, c.loop-walked-test.false, c.loop-walked.invariant.within)) in
    only_answer (g.W.Walk.course c.args.walk.now) c.args.horizon (Err (NoRepeat c.args.horizon)) other (refl, stays)

pub returns-clause-ends : goal.returns-clause-ends
returns-clause-ends g c =
    let stays = Walking-stays _ _ _ c.loop-walked.walked c.args.horizon (g.W.Walk.state_of c.loop-walked.here)
    c.loop-walked.invariant.walking (omega (arith, c.loop-walked-test.false, c.loop-walked.invariant.within)) in
    (refl, stays)
