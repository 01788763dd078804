use Rattle.std.proofs.Common.{◌≤◌, ◌+◌, length}
use Rattle.log_reader.specs.RowBytes.{BeginsWithRows}
use Rattle.log_reader.proofs.log_reading.behind_rows.Given as goal

-- the bytes before the rest are the texts of so many rows, each of one byte at least
abbrev pub invariant-loop-later : goal.invariant-loop-later
invariant-loop-later l = BeginsWithRows l.bytes l.rest l.count × (l.count + length l.rest ≤ length l.bytes)

abbrev pub decreases-loop-later : goal.decreases-loop-later
decreases-loop-later l = length l.rest
