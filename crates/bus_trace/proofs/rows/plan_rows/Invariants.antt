use Rattle.std.proofs.Common.{◌≡◌, ◌+◌, ◌-◌, ◌*◌, ◌≤◌, All, drop, length}
use Rattle.bus_trace.specs.LogRows.{plan_told}
use Rattle.log_reader.specs.Row.{IsLogRow, text_of_rows}
use Rattle.bus_trace.proofs.rows.plan_rows.Given as goal

-- the rows of the cycles from this one on stand
abbrev pub invariant-loop-number : goal.invariant-loop-number
invariant-loop-number l = record {
  rows : drop l.place l.rows ≡ text_of_rows (plan_told (l.from + l.number) (drop l.number l.masks));
  told : All IsLogRow (plan_told (l.from + l.number) (drop l.number l.masks));
  within : l.place ≤ 1024;
  few : 1024 ≤ l.place + 51 * (length l.masks - l.number);
}
