-- What one row `AT,ID,DATA` of a requests file means, below the requests of the rows above it.
use Rattle.std.specs.Prelude.{◌≡◌, ℕ, ◌-◌, ◌<◌, ◌≤◌, ◌==◌, ◌&&◌, Bool, true}
use Rattle.std.specs.Prelude.{if◌then◌else◌, nat_eq, nat_lt, nat_le, List, length, take, drop}
use Rattle.std.specs.Prelude.{codes, Option, Some, None, option_map, option_and_then, ok_or, unwrap_or, Result}
use Rattle.std.specs.Char.{is_ascii_hexdigit}
use Rattle.std.specs.List.{list_all, list_any, slice_get}
use Rattle.std.specs.Str.{bytes_eq}
use Rattle.std.specs.Str.Parse.{digits_value}
use Rattle.profile.specs.Limits.{arrivals_end, greatest_identifier, least_asynchronous}
use Rattle.csv.specs.Records.{field_at}
use Rattle.can_frame.specs.DataFrame.{DataFrame, IsFrame, frame_with}
use Rattle.async_window.specs.declared.request.Request.{Request}
use Rattle.async_window.specs.declared.request.Owner.{Owner}
use Rattle.text_fields.specs.ByteText.{bytes_of}
use Rattle.text_fields.specs.CsvRows.{arrival_in}
use Rattle.text_fields.specs.Decimal.{number_of, within}
use Rattle.text_fields.specs.Whys.{◌>>=◌, where_holds}
use Rattle.requests_file.specs.declared.request_fault.RequestWhy.{RequestWhy}
use Rattle.requests_file.specs.declared.request_fault.RequestWhy.TheVariants.{Fields, Number, Identifier}
use Rattle.requests_file.specs.declared.request_fault.RequestWhy.TheVariants.{Data, Order, Many}

-- the number that one to three hexadecimal digits of either case write, and nothing else
abbrev pub hexadecimal_of : List ℕ → Option ℕ
hexadecimal_of digits =
    if nat_le 1 (length digits) && nat_le (length digits) 3 && list_all is_ascii_hexdigit digits
    then Some (digits_value 16 digits) else None

-- the identifier that a field writes: `0x` and hexadecimal digits, or a number of 0 to 65,535
abbrev pub identifier_of : List ℕ → Option ℕ
identifier_of field =
    if bytes_eq (take 2 field) (codes "0x") then hexadecimal_of (drop 2 field)
    else option_and_then (within 0 65535) (number_of field)

-- ID
abbrev pub identifier_in : List (List ℕ) → Option ℕ
identifier_in row = option_and_then identifier_of (field_at row 1)

-- DATA
abbrev pub bytes_in : List (List ℕ) → Option (List ℕ)
bytes_in row = option_and_then bytes_of (field_at row 2)

-- whether the number is an asynchronous identifier, 0x200 to 0x7EF, that one of these owners has
abbrev pub is_owned : List Owner → ℕ → Bool
is_owned owners identifier =
    nat_le least_asynchronous identifier && nat_le identifier greatest_identifier
    && list_any (λ owner. nat_eq owner.id identifier) owners

-- AT of the row above, and 0 where there is none
abbrev pub arrival_above : List Request → ℕ
arrival_above above = unwrap_or (option_map (λ request. request.at) (slice_get above (length above - 1))) 0

-- the request of a row below the requests of the rows above it, or the first why, in this order, for which it asks for
-- none
unfoldable pub meaning : List Owner → List Request → List (List ℕ) → Result Request RequestWhy
meaning owners above row = do
  fields ← where_holds (length row == 3) row Fields
  at ← ok_or (arrival_in fields) Number
  number ← ok_or (identifier_in fields) Number
  identifier ← where_holds (is_owned owners number) number Identifier
  bytes ← ok_or (bytes_in fields) Data
  arrival ← where_holds (nat_le (arrival_above above) at) at Order
  where_holds (nat_lt (length above) 50000) (record { at = arrival; frame = frame_with identifier bytes }) Many

-- a request with each number in its range, of an identifier that one of these owners has
pub record IsRequest (owners : List Owner) (request : Request) : Type 0 where
  pub early : request.at < arrivals_end
  pub asynchronous : least_asynchronous ≤ request.frame.identifier
  pub legal : IsFrame request.frame
  pub owned : list_any (λ owner. nat_eq owner.id request.frame.identifier) owners ≡ true
