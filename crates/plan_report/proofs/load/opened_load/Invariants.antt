use Rattle.std.proofs.Common.{◌*◌, ◌≤◌, drop}
use Rattle.requirement_table.specs.Instance.{worst}
use Rattle.bit_sets.specs.Sets.{most_slots}
use Rattle.plan_report.specs.Current.{AreEntriesPassed}
use Rattle.plan_report.specs.Opened.{IsWidthFrom}
use Rattle.plan_report.proofs.Widths.{IsLoaded}
use Rattle.plan_report.proofs.load.opened_load.Given as goal

abbrev pub invariant-loop-event : goal.invariant-loop-event
invariant-loop-event l = record {
  loaded : IsLoaded l.placed l.history l.load l.next (drop l.event-index l.history);
  few : l.load.sum ≤ most_slots * worst 8 * l.event-index;
  near : l.next ≤ l.event-index;
  passed : AreEntriesPassed l.placed l.places.first l.next;
  known : IsWidthFrom l.placed l.next l.known;
}
