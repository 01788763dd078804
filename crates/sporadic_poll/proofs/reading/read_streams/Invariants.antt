-- The requests so far are those of the rows that were read.
use Rattle.text_fields.specs.RecordReading.{bytes_left}
use Rattle.sporadic_poll.proofs.StreamsReading.{ReadsStreams}
use Rattle.sporadic_poll.proofs.reading.read_streams.Given as goal

abbrev pub invariant-loop-streams : goal.invariant-loop-streams
invariant-loop-streams l = ReadsStreams l.fn.slots l.fn.bytes l.reader l.streams.items

abbrev pub decreases-loop-streams : goal.decreases-loop-streams
decreases-loop-streams l = bytes_left l.reader
