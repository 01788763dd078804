use Rattle.std.proofs.Common.{Some}
use Rattle.std.specs.BTreeMap.{get}
use Rattle.recurrence_check.specs.Keys.{IsSparse, MeetsRun, table}
use Rattle.recurrence_check.proofs.Noted.{key_cmp}
use Rattle.recurrence_check.proofs.by_keys.meet_each.Given as goal

-- the keys so far are put down
abbrev pub invariant-loop-behind : goal.invariant-loop-behind
invariant-loop-behind l = record {
  met : MeetsRun (table l.fn.row.items (get key_cmp l.fn.others)) (table l.row.items (get key_cmp l.others)) (Some (l.mark, l.place)) l.steps l.behind;
  sparse : IsSparse l.row.items (get key_cmp l.others);
}
