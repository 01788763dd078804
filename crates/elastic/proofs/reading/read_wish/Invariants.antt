-- The start and the operations so far are what the rows that were read say.
use Rattle.text_fields.specs.RecordReading.{bytes_left}
use Rattle.elastic.proofs.ReadingWish.{ReadsWish}
use Rattle.elastic.proofs.reading.read_wish.Given as goal

abbrev pub invariant-loop-ops : goal.invariant-loop-ops
invariant-loop-ops l = ReadsWish l.fn.bytes l.reader l.start l.ops.items

abbrev pub decreases-loop-ops : goal.decreases-loop-ops
decreases-loop-ops l = bytes_left l.reader
