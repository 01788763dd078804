use Rattle.std.proofs.Common.{◌≡◌, ℕ, sym, ◌∙◌, arith}
use Rattle.std.proofs.lemmas.Bool.{cases_lt}
use Rattle.bit_sets.specs.Sets.{has_bit}
use Rattle.planner_policies.specs.Due.{IsPlanned}
use Rattle.planner_policies.specs.Plan.{Ranking, planning_of}
use Rattle.release_wheel.specs.Passed.{IsPassed}
use Rattle.release_wheel.proofs.wheel.pass_quiet.Goals as goal

-- a cycle is passed in which nothing is planned, and after which the same is pending
passed-at : (ranking : Ranking) (window c slots mask width next : ℕ)
    → IsPlanned (planning_of ranking window c slots) c (has_bit slots) mask width next → mask ≡ 0 → next ≡ slots
    → IsPassed (planning_of ranking window c slots)
passed-at ranking window c slots mask width next planned mask_is next_is = grind arith

pub loop-wheel-init : goal.loop-wheel-init
loop-wheel-init c = grind arith

pub pass-requires-clause-kept : goal.pass-requires-clause-kept
pass-requires-clause-kept c = c.loop-wheel.invariant.kept

pub pass-requires-clause-quiet : goal.pass-requires-clause-quiet
pass-requires-clause-quiet c = grind arith

pub loop-wheel-preserved : goal.loop-wheel-preserved
loop-wheel-preserved c =
    let l = c.loop-wheel in
    let inv = l.invariant in
    let ranking = c.args.ranked.now in
    let slots = c.args.wheel.now.dues.waiting.slots in
    let made = c.pass.ensures in
    let next = made.next in
    let onward = inv.onward in
    let kept = made.kept in
    let still : c.pass.new.wheel.dues.waiting.slots ≡ slots = made.empty.0 ∙ sym inv.empty in
    record {
      kept = kept;
      quiet = made.same ∙ inv.quiet;
      slots = still;
      empty = inv.empty;
      onward = omega arith;
      valid = grind (arith, cases_lt);
      until = λ from. let more = c.loop-wheel-test.true in let end = c.min-end.ensures in omega arith;
      passed = grind (arith, passed-at, cases_lt);
    }

pub returns-clause-onward : goal.returns-clause-onward
returns-clause-onward c = c.loop-wheel.invariant.onward

pub returns-clause-until : goal.returns-clause-until
returns-clause-until c = c.loop-wheel.invariant.until

pub returns-clause-slots : goal.returns-clause-slots
returns-clause-slots c = c.loop-wheel.invariant.slots

pub returns-clause-valid : goal.returns-clause-valid
returns-clause-valid c = c.loop-wheel.invariant.valid

pub returns-clause-passed : goal.returns-clause-passed
returns-clause-passed c = c.loop-wheel.invariant.passed

pub returns-clause-kept : goal.returns-clause-kept
returns-clause-kept c = c.loop-wheel.invariant.kept
