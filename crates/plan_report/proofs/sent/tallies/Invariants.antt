use Rattle.std.proofs.Common.{◌≡◌, ◌≤◌, ◌-◌, take}
use Rattle.bus_trace.specs.Log.{triggers_in}
use Rattle.plan_report.specs.Current.{AreEntriesPassed}
use Rattle.plan_report.specs.Tally.{AreTallies}
use Rattle.plan_report.proofs.sent.tallies.Given as goal

abbrev pub invariant-loop-sent : goal.invariant-loop-sent
invariant-loop-sent l = record {
  counted : AreTallies (take l.sent-index l.trace) l.placed l.tallies.items;
  triggers : l.seen ≡ triggers_in (take l.sent-index l.trace);
  few : l.seen ≤ l.sent-index;
  passed : AreEntriesPassed l.placed l.places.first (l.seen - 1);
}
