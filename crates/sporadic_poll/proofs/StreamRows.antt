-- What a row means, fault by fault.
use Rattle.std.proofs.Common.{◌≡◌, ◌≢◌, map, ℕ, ◌<◌, ◌≤◌, ◌==◌, true, false, List, length, Some, None, Ok, Err, nat_lt, refl, arith}
use Rattle.std.proofs.lemmas.List.{length-map}
use Rattle.std.proofs.lemmas.Bool.Decides.{nat_tests}
use Rattle.text_fields.specs.CsvRows.{trimmed}
use Rattle.text_fields.specs.CsvRows.{arrival_in}
use Rattle.sporadic_poll.specs.StreamRow.{arrival_above, meaning, payload_in, seven_at_most, slot_in}
use Rattle.sporadic_poll.specs.declared.stream.Stream.{Stream}
use Rattle.sporadic_poll.specs.declared.stream_fault.StreamWhy.TheVariants.{Fields, Number, Slot, Data, Order, Many}

-- trimming keeps the number of fields
pub three_fields : (fields : List (List ℕ)) → length fields ≡ 3 → (length (map trimmed fields) == 3) ≡ true
three_fields fields h = rw (length-map fields trimmed, h) refl

pub other_than_three : (fields : List (List ℕ)) → length fields ≢ 3 → (length (map trimmed fields) == 3) ≡ false
other_than_three fields h = rw (length-map fields trimmed) (grind (arith, nat_tests))

-- at most seven bytes, and more
pub seven : (bytes : List ℕ) → length bytes ≤ 7 → seven_at_most bytes ≡ Some bytes
seven bytes few = grind (arith, nat_tests)

pub eight : (bytes : List ℕ) → 7 < length bytes → seven_at_most bytes ≡ None
eight bytes many = grind (arith, nat_tests)

module _ (slots : ℕ) (above : List Stream) (row : List (List ℕ)) where
  pub other_fields : (length row == 3) ≡ false → meaning slots above row ≡ Err Fields
  unfolding meaning
  other_fields three = rw three refl

  pub no_arrival : (length row == 3) ≡ true → arrival_in row ≡ None → meaning slots above row ≡ Err Number
  unfolding meaning
  no_arrival three at = rw (three, at) refl

  pub no_slot : (at : ℕ) → (length row == 3) ≡ true → arrival_in row ≡ Some at → slot_in row ≡ None → meaning slots above row ≡ Err Number
  unfolding meaning
  no_slot at three arrival slot = rw (three, arrival, slot) refl

  pub unknown : (at slot : ℕ) → (length row == 3) ≡ true → arrival_in row ≡ Some at → slot_in row ≡ Some slot → slots ≤ slot → meaning slots above row ≡ Err Slot
  unfolding meaning
  unknown at slot three arrival number known = grind (arith, nat_lt, nat_tests)

  pub no_payload : (at slot : ℕ) → (length row == 3) ≡ true → arrival_in row ≡ Some at → slot_in row ≡ Some slot → slot < slots → payload_in row ≡ None → meaning slots above row ≡ Err Data
  unfolding meaning
  no_payload at slot three arrival number known bytes = grind (arith, nat_lt, nat_tests)

  pub falls : (at slot : ℕ) (payload : List ℕ) → (length row == 3) ≡ true → arrival_in row ≡ Some at → slot_in row ≡ Some slot → slot < slots → payload_in row ≡ Some payload
      → at < arrival_above above → meaning slots above row ≡ Err Order
  unfolding meaning
  falls at slot payload three arrival number known bytes order = grind (arith, nat_lt, nat_tests)

  pub too_many : (at slot : ℕ) (payload : List ℕ) → (length row == 3) ≡ true → arrival_in row ≡ Some at → slot_in row ≡ Some slot → slot < slots → payload_in row ≡ Some payload
      → arrival_above above ≤ at → 10000 ≤ length above → meaning slots above row ≡ Err Many
  unfolding meaning
  too_many at slot payload three arrival number known bytes order many = grind (arith, nat_lt, nat_tests)

  pub asks : (at slot : ℕ) (payload : List ℕ) → (length row == 3) ≡ true → arrival_in row ≡ Some at → slot_in row ≡ Some slot → slot < slots → payload_in row ≡ Some payload
      → arrival_above above ≤ at → length above < 10000 → meaning slots above row ≡ Ok (record { at = at; slot = slot; payload = payload })
  unfolding meaning
  asks at slot payload three arrival number known bytes order few = grind (arith, nat_lt, nat_tests)
