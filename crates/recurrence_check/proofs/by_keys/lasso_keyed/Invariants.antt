use Rattle.std.proofs.Common.{◌+◌, ◌-◌, ◌≤◌}
use Rattle.std.specs.BTreeMap.{get}
use Rattle.recurrence_check.specs.Keys.{IsSparse, table}
use Rattle.recurrence_check.proofs.Noted.{Noted, key_cmp}
use Rattle.recurrence_check.proofs.Walking.{Walking}
use Rattle.recurrence_check.proofs.by_keys.lasso_keyed.Given as goal

-- no state repeats yet, and the keys of those up to this one are noted
abbrev pub invariant-loop-walked : goal.invariant-loop-walked
invariant-loop-walked g l = record {
  walking : Walking (g.W.Walk.course l.walk) (g.W.Walk.is_good l.walk) (g.W.Walk.number l.walk) l.walked (g.W.Walk.state_of l.here);
  on : g.W.Walk.is_on l.walk l.here;
  noted : Noted (g.W.Walk.course l.walk) (g.W.Keyed.key_of l.walk) (table l.row.items (get key_cmp l.others)) (l.walked + 1);
  within : l.walked ≤ l.horizon;
  sparse : IsSparse l.row.items (get key_cmp l.others);
}

abbrev pub decreases-loop-walked : goal.decreases-loop-walked
decreases-loop-walked g l = l.horizon - l.walked
