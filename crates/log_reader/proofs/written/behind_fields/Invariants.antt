use Rattle.csv.specs.Records.{fields_of}
use Rattle.log_reader.proofs.JoinedFields.{AreLeft}
use Rattle.log_reader.proofs.written.behind_fields.Given as goal

-- the fields before the place have come
abbrev pub invariant-loop-place : goal.invariant-loop-place
invariant-loop-place l = AreLeft (fields_of l.fields) l.place l.bytes l.rest
