use Rattle.std.proofs.Common.{◌≡◌, ◌+◌, ◌≤◌, List, drop, take}
use Rattle.master_core.specs.History.{IsLegal, next_of}
use Rattle.master_core.specs.declared.event.Event.{Event}
use Rattle.standby.specs.Handover.{IsBehind}
use Rattle.standby.specs.Telling.{FollowsAll}
use Rattle.standby.proofs.told.follow.Given as goal

abbrev pub invariant-loop-one : goal.invariant-loop-one
invariant-loop-one l = record {
  rules : l.standby.rules ≡ l.initial.standby.rules;
  next : next_of l.standby.history ≤ next_of l.initial.standby.history + l.one-index;
  followed : FollowsAll l.initial.standby (take l.one-index l.told) l.standby.history;
  behind : (whole : List Event) → IsLegal l.initial.standby.rules whole
      → IsBehind l.initial.standby.rules whole l.initial.standby.history l.told
      → IsBehind l.initial.standby.rules whole l.standby.history (drop l.one-index l.told);
}
