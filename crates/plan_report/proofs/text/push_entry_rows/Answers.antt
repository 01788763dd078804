use Rattle.std.proofs.Common.{None}
use Rattle.std.specs.String.{string_bytes}
use Rattle.requirement_table.specs.declared.entries.Placed.{Placed}
use Rattle.plan_report.proofs.RowByRow.{entries-next}
use Rattle.plan_report.proofs.text.push_entry_rows.Goals as goal

abbrev nowhere : Placed
nowhere = record { entry = record { slot = 0; node = 0; length = 0; phase = 0; period = 0; deadline = 0; priority = 0 }; origin = 0; end = None }

pub loop-place-preserved : goal.loop-place-preserved
loop-place-preserved c =
    entries-next c.args.trace.now c.args.placed.now c.in_ok-tallies.tallies.items c.loop-place.place nowhere c.index.result.now c.tally_of.result
    (string_bytes c.args.text.now) (string_bytes c.loop-place.text) (string_bytes c.push_entry_row.new.text)
    c.in_ok-tallies.ensures.tallies c.loop-place-test.true c.index.ensures c.tally_of.ensures.tally c.loop-place.invariant c.in_ok-push_entry_row.ensures.ok
