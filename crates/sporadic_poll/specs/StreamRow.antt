-- What one row `AT,SLOT,DATA` of a streams file means, below the requests of the rows above it.
use Rattle.std.specs.Prelude.{ℕ, ◌-◌, ◌<◌, ◌≤◌, ◌==◌, if◌then◌else◌, nat_lt, nat_le, List, length}
use Rattle.std.specs.Prelude.{Option, Some, None, option_map, option_and_then, ok_or, unwrap_or, Result}
use Rattle.std.specs.List.{slice_get}
use Rattle.profile.specs.Limits.{arrivals_end}
use Rattle.csv.specs.Records.{field_at}
use Rattle.text_fields.specs.ByteText.{bytes_of}
use Rattle.text_fields.specs.CsvRows.{arrival_in, number_at}
use Rattle.text_fields.specs.Whys.{◌>>=◌, where_holds}
use Rattle.sporadic_poll.specs.declared.stream.Stream.{Stream}
use Rattle.sporadic_poll.specs.declared.stream_fault.StreamWhy.{StreamWhy}
use Rattle.sporadic_poll.specs.declared.stream_fault.StreamWhy.TheVariants.{Fields, Number, Slot, Data, Order, Many}

-- SLOT: a number of 0 to 255
abbrev pub slot_in : List (List ℕ) → Option ℕ
slot_in row = number_at row 1 0 255

-- these bytes, where they are at most seven
abbrev pub seven_at_most : List ℕ → Option (List ℕ)
seven_at_most bytes = if nat_le (length bytes) 7 then Some bytes else None

-- DATA: the bytes that an even number of 0 to 14 hexadecimal digits writes
abbrev pub payload_in : List (List ℕ) → Option (List ℕ)
payload_in row = option_and_then seven_at_most (option_and_then bytes_of (field_at row 2))

-- AT of the row above, and 0 where there is none
abbrev pub arrival_above : List Stream → ℕ
arrival_above above = unwrap_or (option_map (λ stream. stream.at) (slice_get above (length above - 1))) 0

-- the request of a row below the requests of the rows above it, where there are so many slots, or the first why, in this
-- order, for which it asks for none
unfoldable pub meaning : ℕ → List Stream → List (List ℕ) → Result Stream StreamWhy
meaning slots above row = do
  fields ← where_holds (length row == 3) row Fields
  at ← ok_or (arrival_in fields) Number
  number ← ok_or (slot_in fields) Number
  slot ← where_holds (nat_lt number slots) number Slot
  payload ← ok_or (payload_in fields) Data
  arrival ← where_holds (nat_le (arrival_above above) at) at Order
  where_holds (nat_lt (length above) 10000) (record { at = arrival; slot = slot; payload = payload }) Many

-- a request with each number in its range, where there are so many slots
pub record IsLegalStream (slots : ℕ) (stream : Stream) : Type 0 where
  pub early : stream.at < arrivals_end
  pub known : stream.slot < slots
  pub short : length stream.payload ≤ 7
