-- How a reader stands between two rows of a streams file.
use Rattle.std.proofs.Common.{ℕ, List, map}
use Rattle.text_fields.specs.RecordReading.{ReadsRecords}
use Rattle.text_fields.specs.declared.records.RecordReader.{RecordReader}
use Rattle.text_fields.specs.CsvRows.{trimmed}
use Rattle.sporadic_poll.specs.StreamsFile.{AreLegalStreams, AreStreamsOfRows}
use Rattle.sporadic_poll.specs.declared.stream.Stream.{Stream}

-- the requests so far are those of the rows that were read
pub record ReadsStreams (slots : ℕ) (bytes : List ℕ) (reader : RecordReader) (streams : List Stream) : Type 0 where
  pub before : List (List (List ℕ))
  pub reads : ReadsRecords bytes reader before
  pub means : AreStreamsOfRows slots (map (map trimmed) before) streams
  pub legal : AreLegalStreams slots streams
