-- What a row means, fault by fault.
use Rattle.std.proofs.Common.{◌≡◌, ◌≢◌, map, ℕ, ◌<◌, ◌≤◌, ◌==◌, ◌&&◌, ◌^◌, true, false, List, length, Option, Some, None, option_map, Ok, Err, nat_le, nat_lt, nat_eq, refl, sym, ap, arith}
use Rattle.std.proofs.lemmas.Bool.{and_parts}
use Rattle.std.proofs.lemmas.List.{length-map}
use Rattle.std.proofs.lemmas.Option.{same_Some}
use Rattle.std.proofs.lemmas.Bool.Decides.{nat_tests}
use Rattle.std.specs.List.{list_any}
use Rattle.can_frame.specs.DataFrame.{DataFrame, IsFrame, frame_with}
use Rattle.async_window.specs.declared.request.Request.{Request}
use Rattle.async_window.specs.declared.request.Owner.{Owner}
use Rattle.text_fields.specs.CsvRows.{trimmed}
use Rattle.text_fields.specs.CsvRows.{arrival_in}
use Rattle.requests_file.specs.RequestRow.{IsRequest, arrival_above, bytes_in, identifier_in, is_owned, meaning}
use Rattle.requests_file.specs.declared.request_fault.RequestWhy.TheVariants.{Fields, Number, Identifier, Data, Order, Many}

-- trimming keeps the number of fields
pub three_fields : (fields : List (List ℕ)) → length fields ≡ 3 → (length (map trimmed fields) == 3) ≡ true
three_fields fields h = rw (length-map fields trimmed, h) refl

pub other_than_three : (fields : List (List ℕ)) → length fields ≢ 3 → (length (map trimmed fields) == 3) ≡ false
other_than_three fields h = rw (length-map fields trimmed) (grind (arith, nat_tests))

-- the bytes of a frame that was read
pub bytes_read : (id : ℕ) (frame : DataFrame) (bytes : Option (List ℕ)) → Some frame ≡ option_map (frame_with id) bytes → bytes ≡ Some frame.bytes
bytes_read id frame None read = absurd (cc)
bytes_read id frame (Some bytes) read = ap (λ (f : DataFrame). Some f.bytes) (sym (same_Some _ _ read))

-- the identifier of a frame that was read
pub id_read : (id : ℕ) (frame : DataFrame) (bytes : Option (List ℕ)) → Some frame ≡ option_map (frame_with id) bytes → frame.identifier ≡ id
id_read id frame None read = absurd (cc)
id_read id frame (Some bytes) read = ap (λ (f : DataFrame). f.identifier) (same_Some _ _ read)

-- no bytes were read
pub none_read : (id : ℕ) (bytes : Option (List ℕ)) → None ≡ option_map (frame_with id) bytes → bytes ≡ None
none_read id None read = refl
none_read id (Some bytes) read = absurd (cc)

module _ (owners : List Owner) (above : List Request) (row : List (List ℕ)) where
  pub other_fields : (length row == 3) ≡ false → Err Fields ≡ meaning owners above row
  unfolding meaning
  other_fields three = rw three

  pub no_arrival : (length row == 3) ≡ true → arrival_in row ≡ None → Err Number ≡ meaning owners above row
  unfolding meaning
  no_arrival three at = rw (three, at)

  pub no_identifier : (at : ℕ) → (length row == 3) ≡ true → arrival_in row ≡ Some at → identifier_in row ≡ None → Err Number ≡ meaning owners above row
  unfolding meaning
  no_identifier at three arrival id = rw (three, arrival, id)

  pub not_owned : (at id : ℕ) → (length row == 3) ≡ true → arrival_in row ≡ Some at → identifier_in row ≡ Some id → is_owned owners id ≡ false → Err Identifier ≡ meaning owners above row
  unfolding meaning
  not_owned at id three arrival identifier owned = rw (three, arrival, identifier, owned)

  pub no_bytes : (at id : ℕ) → (length row == 3) ≡ true → arrival_in row ≡ Some at → identifier_in row ≡ Some id → is_owned owners id ≡ true → bytes_in row ≡ None → Err Data ≡ meaning owners above row
  unfolding meaning
  no_bytes at id three arrival identifier owned bytes = rw (three, arrival, identifier, owned, bytes)

  pub falls : (at id : ℕ) (bytes : List ℕ) → (length row == 3) ≡ true → arrival_in row ≡ Some at → identifier_in row ≡ Some id → is_owned owners id ≡ true → bytes_in row ≡ Some bytes
      → at < arrival_above above → Err Order ≡ meaning owners above row
  unfolding meaning
  falls at id bytes three arrival identifier owned written order =
      let less : nat_le (arrival_above above) at ≡ false = grind (arith, nat_tests) in
      rw (three, arrival, identifier, owned, written, less)

  pub too_many : (at id : ℕ) (bytes : List ℕ) → (length row == 3) ≡ true → arrival_in row ≡ Some at → identifier_in row ≡ Some id → is_owned owners id ≡ true → bytes_in row ≡ Some bytes
      → arrival_above above ≤ at → 50000 ≤ length above → Err Many ≡ meaning owners above row
  unfolding meaning
  too_many at id bytes three arrival identifier owned written order many =
      let later : nat_le (arrival_above above) at ≡ true = grind (arith, nat_tests) in
      let room : nat_lt (length above) 50000 ≡ false = grind (arith, nat_tests) in
      rw (three, arrival, identifier, owned, written, later, room)

  pub asks : (at id : ℕ) (frame : DataFrame) → (length row == 3) ≡ true → arrival_in row ≡ Some at → identifier_in row ≡ Some id → is_owned owners id ≡ true
      → Some frame ≡ option_map (frame_with id) (bytes_in row)
      → arrival_above above ≤ at → length above < 50000 → Ok (record { at = at; frame = frame }) ≡ meaning owners above row
  unfolding meaning
  asks at id frame three arrival identifier owned read order few =
      let later : nat_le (arrival_above above) at ≡ true = grind (arith, nat_tests) in
      let room : nat_lt (length above) 50000 ≡ true = grind (arith, nat_tests) in
      let written : bytes_in row ≡ Some frame.bytes = bytes_read id frame (bytes_in row) read in
      let id_is : frame.identifier ≡ id = id_read id frame (bytes_in row) read in
      rw (three, arrival, identifier, owned, written, later, room, ← id_is)

-- a request whose number has an owner
pub is_request : (owners : List Owner) (at id : ℕ) (frame : DataFrame) (bytes : Option (List ℕ)) → at < 2 ^ 40 → is_owned owners id ≡ true
    → Some frame ≡ option_map (frame_with id) bytes → IsFrame frame → IsRequest owners (record { at = at; frame = frame })
is_request owners at id frame bytes early owned read legal =
    let (range, among) = and_parts (nat_le 0x200 id && nat_le id 0x7EF) (list_any (λ owner. nat_eq owner.id id) owners) owned in
    let (high, low) = and_parts (nat_le 0x200 id) (nat_le id 0x7EF) range in
    let id_is : frame.identifier ≡ id = id_read id frame bytes read in
    record {
      early = early;
      asynchronous = grind (arith, nat_tests);
      legal = legal;
      owned = rw id_is among;
    }
