use Rattle.recurrence_check.proofs.Listed.{Listed}
use Rattle.recurrence_check.proofs.Walking.{Walking}
use Rattle.recurrence_check.proofs.compared.lasso.Given as goal

-- no state repeats yet, and those before this one are listed
abbrev pub invariant-loop-walked : goal.invariant-loop-walked
invariant-loop-walked g l = record {
  walking : Walking (g.W.Walk.course l.walk) (g.W.Walk.is_good l.walk) (g.W.Walk.number l.walk) l.walked (g.W.Walk.state_of l.here);
  on : g.W.Walk.is_on l.walk l.here;
  listed : Listed (g.W.Walk.course l.walk) l.earlier.items l.walked;
}
