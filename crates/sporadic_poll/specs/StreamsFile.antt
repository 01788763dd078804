-- What a streams file means: the requests of all its rows, or its first row that is none.
use Rattle.std.specs.Prelude.{ℕ, ◌≤◌, List, [], length, Result, Ok, Err, All, AllPairs, ⊤}
use Rattle.text_fields.specs.CsvRows.{rows_of}
use Rattle.text_fields.specs.RowByRow.{AreItems, Faulty, IsFirstFault, items_below}
use Rattle.sporadic_poll.specs.StreamRow.{meaning, IsLegalStream}
use Rattle.sporadic_poll.specs.declared.stream.Stream.{Stream}
use Rattle.sporadic_poll.specs.declared.stream_fault.StreamWhy.{StreamWhy}
use Rattle.sporadic_poll.specs.declared.stream_fault.StreamFault.{StreamFault}
use Rattle.sporadic_poll.specs.declared.stream_fault.StreamFault.TheVariants.{Row, Memory}

-- the requests are those of all rows, each below those of the rows above it
abbrev pub AreStreamsOfRows : ℕ → List (List (List ℕ)) → List Stream → Type 0
AreStreamsOfRows slots rows streams = AreItems (meaning slots) rows streams

-- the fault that rows give; want of memory says nothing of them
abbrev pub IsStreamFault : ℕ → List (List (List ℕ)) → StreamFault → Type 0
IsStreamFault slots rows (Row number why) = IsFirstFault (meaning slots) rows number why
IsStreamFault slots rows Memory = ⊤

-- what holds of the requests of a file, where there are so many slots
pub record AreLegalStreams (slots : ℕ) (streams : List Stream) : Type 0 where
  pub each : All (IsLegalStream slots) streams
  pub in_order : AllPairs (λ earlier later. earlier.at ≤ later.at) streams
  pub few : length streams ≤ 10000

-- the requests, or the fault of a row
abbrev pub streams_or_fault : Result (List Stream) (Faulty StreamWhy) → Result (List Stream) StreamFault
streams_or_fault (Ok streams) = Ok streams
streams_or_fault (Err fault) = Err (Row fault.number fault.why)

-- the requests of rows, or their fault
unfoldable pub streams_of_rows : ℕ → List (List (List ℕ)) → Result (List Stream) StreamFault
streams_of_rows slots rows = streams_or_fault (items_below (meaning slots) [] rows)

-- the requests of a file, or its fault
unfoldable pub streams_of : ℕ → List ℕ → Result (List Stream) StreamFault
streams_of slots bytes = streams_of_rows slots (rows_of bytes)
