use Rattle.std.proofs.Common.{◌≡◌, take}
use Rattle.master_core.proofs.core_plans.same_list.Given as goal

-- the entries so far are the same
abbrev pub invariant-loop-i : goal.invariant-loop-i
invariant-loop-i l = take l.i l.one ≡ take l.i l.other
