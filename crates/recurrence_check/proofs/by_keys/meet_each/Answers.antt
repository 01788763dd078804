use Rattle.std.proofs.Common.{◌+◌, Some, subst}
use Rattle.std.specs.BTreeMap.{get}
use Rattle.recurrence_check.specs.Keys.{Meets, table}
use Rattle.recurrence_check.proofs.Noted.{key_cmp}
use Rattle.recurrence_check.proofs.by_keys.meet_each.Goals as goal

pub returns-in-Some-clause-met : goal.returns-in-Some-clause-met
returns-in-Some-clause-met c =
    let mid = table c.loop-behind.row.items (get key_cmp c.loop-behind.others) in
    let new = table c.meet.new.row.items (get key_cmp c.meet.new.others) in
    let n = c.loop-behind.behind in (
      c.loop-behind-test.true,
      mid,
      c.loop-behind.invariant.met,
      subst (λ before. Meets mid new (Some (c.args.mark, c.args.place + n)) (c.args.steps + n) before) c.in-Some.is c.in_ok-first.ensures.met,
    )
