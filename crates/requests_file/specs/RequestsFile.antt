-- What a requests file means: the requests of all its rows, or its first row that is none.
use Rattle.std.specs.Prelude.{ℕ, ◌≤◌, List, [], length, Result, Ok, Err, All, AllPairs, ⊤}
use Rattle.async_window.specs.declared.request.Request.{Request}
use Rattle.async_window.specs.declared.request.Owner.{Owner}
use Rattle.text_fields.specs.CsvRows.{rows_of}
use Rattle.requests_file.specs.RequestRow.{meaning, IsRequest}
use Rattle.text_fields.specs.RowByRow.{AreItems, Faulty, IsFirstFault, items_below}
use Rattle.requests_file.specs.declared.request_fault.RequestWhy.{RequestWhy}
use Rattle.requests_file.specs.declared.request_fault.RequestFault.{RequestFault}
use Rattle.requests_file.specs.declared.request_fault.RequestFault.TheVariants.{Row, Memory}

-- the requests are those of all rows, each below those of the rows above it
abbrev pub AreRequests : List Owner → List (List (List ℕ)) → List Request → Type 0
AreRequests owners rows requests = AreItems (meaning owners) rows requests

-- the fault that rows give; want of memory says nothing of them
abbrev pub IsRequestFault : List Owner → List (List (List ℕ)) → RequestFault → Type 0
IsRequestFault owners rows (Row number why) = IsFirstFault (meaning owners) rows number why
IsRequestFault owners rows Memory = ⊤

-- what holds of the requests of a file, for these owners
pub record AreLegal (owners : List Owner) (requests : List Request) : Type 0 where
  pub each : All (IsRequest owners) requests
  pub in_order : AllPairs (λ earlier later. earlier.at ≤ later.at) requests
  pub few : length requests ≤ 50000

-- the requests, or the fault of a row
abbrev pub requests_or_fault : Result (List Request) (Faulty RequestWhy) → Result (List Request) RequestFault
requests_or_fault (Ok requests) = Ok requests
requests_or_fault (Err fault) = Err (Row fault.number fault.why)

-- the requests of rows, or their fault
unfoldable pub requests_of_rows : List Owner → List (List (List ℕ)) → Result (List Request) RequestFault
requests_of_rows owners rows = requests_or_fault (items_below (meaning owners) [] rows)

-- the requests of a file, or its fault
unfoldable pub requests_of : List Owner → List ℕ → Result (List Request) RequestFault
requests_of owners bytes = requests_of_rows owners (rows_of bytes)
