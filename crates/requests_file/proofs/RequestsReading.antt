-- How a reader stands between two rows of a requests file.
use Rattle.std.proofs.Common.{ℕ, List, map}
use Rattle.async_window.specs.declared.request.Request.{Request}
use Rattle.async_window.specs.declared.request.Owner.{Owner}
use Rattle.requests_file.specs.RequestsFile.{AreLegal, AreRequests}
use Rattle.text_fields.specs.RecordReading.{ReadsRecords}
use Rattle.text_fields.specs.declared.records.RecordReader.{RecordReader}
use Rattle.text_fields.specs.CsvRows.{trimmed}

-- the requests so far are those of the rows that were read
pub record ReadsRequests (owners : List Owner) (bytes : List ℕ) (reader : RecordReader) (requests : List Request) : Type 0 where
  pub before : List (List (List ℕ))
  pub reads : ReadsRecords bytes reader before
  pub means : AreRequests owners (map (map trimmed) before) requests
  pub legal : AreLegal owners requests
