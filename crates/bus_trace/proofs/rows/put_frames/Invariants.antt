use Rattle.std.proofs.Common.{◌≡◌, ◌+◌, ◌-◌, ◌*◌, ◌≤◌, All, drop, length, map}
use Rattle.log_reader.specs.Row.{IsLogRow, text_of_rows}
use Rattle.log_reader.specs.declared.row.LogRow.TheVariants.{Frame}
use Rattle.bus_trace.proofs.rows.put_frames.Given as goal

-- the rows of the frames from this one on stand
abbrev pub invariant-loop-number : goal.invariant-loop-number
invariant-loop-number l = record {
  rows : drop l.place l.rows ≡ text_of_rows (map Frame (drop l.number l.frames));
  told : All IsLogRow (map Frame (drop l.number l.frames));
  within : l.place ≤ 1024;
  few : 1024 ≤ l.place + 59 * (length l.frames - l.number);
}
