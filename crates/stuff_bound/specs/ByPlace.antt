-- *Stuffing* in the words of the standard, by places: a place is an index, and the bits are in the order of sending.
-- `laws` ties these words to those of `Stuffing` and `StuffFault`.
use Rattle.std.specs.Prelude.{◌≡◌, ℕ, ◌+◌, ◌-◌, ◌<◌, Bool, false, not, ◌&&◌}
use Rattle.std.specs.Prelude.{nat_le, List, length, map, slice_index_or, filter, IsTrue, IsFalse}
use Rattle.std.specs.Bool.{beq}
use Rattle.std.specs.List.{list_all, range_with_len}

-- the bit at a place
abbrev pub bit_at : List Bool → ℕ → Bool
bit_at wire place = slice_index_or wire place false

-- the `count` bits of `wire` from `start` on are there, and are equal
abbrev pub are_equal : List Bool → ℕ → ℕ → Bool
are_equal wire start count =
    nat_le (start + count) (length wire)
    && list_all (λ k. beq (bit_at wire (start + k)) (bit_at wire start)) (range_with_len 0 count)

-- a stuff place: the five bits before it are equal
abbrev pub is_stuff_place : List Bool → ℕ → Bool
is_stuff_place wire place = nat_le 5 place && are_equal wire (place - 5) 5

-- the places of `wire` that are no stuff places, in order
abbrev pub other_places : List Bool → List ℕ
other_places wire = filter (λ place. not (is_stuff_place wire place)) (range_with_len 0 (length wire))

-- `wire` stuffs `plain`, by places
pub record StuffsByPlace (wire plain : List Bool) : Type 0 where
  pub no_six : (start : ℕ) → IsFalse (are_equal wire start 6)
  pub ended : (start : ℕ) → start + 5 ≡ length wire → IsFalse (are_equal wire start 5)
  pub left : map (bit_at wire) (other_places wire) ≡ plain

-- the six bits up to `place` are the first six equal neighbours of `wire`
pub record HasFirstSixthByPlace (wire : List Bool) (place : ℕ) : Type 0 where
  pub sixth : (start : ℕ) × (place ≡ start + 5) × IsTrue (are_equal wire start 6)
  pub first : (start : ℕ) → start + 5 < place → IsFalse (are_equal wire start 6)

-- `wire` has no six equal neighbours, and its last five bits are equal
pub record EndsInFiveByPlace (wire : List Bool) : Type 0 where
  pub no_six : (start : ℕ) → IsFalse (are_equal wire start 6)
  pub five : (start : ℕ) × (start + 5 ≡ length wire) × IsTrue (are_equal wire start 5)
