-- The requests so far are those of the rows that were read.
use Rattle.text_fields.specs.RecordReading.{bytes_left}
use Rattle.requests_file.proofs.RequestsReading.{ReadsRequests}
use Rattle.requests_file.proofs.requests.read_requests.Given as goal

abbrev pub invariant-loop-requests : goal.invariant-loop-requests
invariant-loop-requests l = ReadsRequests l.fn.owners l.fn.bytes l.reader l.requests.items

abbrev pub decreases-loop-requests : goal.decreases-loop-requests
decreases-loop-requests l = bytes_left l.reader
