-- How far a reader of wire bits is: words for its own contracts.
use Rattle.std.specs.Prelude.{◌≡◌, ℕ, ◌<◌, Bool, List, [], ◌∷◌, ◌++◌, length, reverse}
use Rattle.stuff_bound.specs.Stuffing.{run, HasNoSix}
use Rattle.can_frame.specs.Reading.{carried, plain_length, IsPlaced}

-- the bits that were read, and those that are left
pub record Progress : Type 0 where
  pub read : List Bool
  pub rest : List Bool

-- the bits that the reader was given
abbrev pub all_bits : Progress → List Bool
all_bits at = at.read ++ at.rest

-- the next `width` bits of the plain part may be any, as far as those before the last of them go: none of these is
-- misplaced, and the plain part is not whole with them
pub record Expects (at : Progress) (width : ℕ) : Type 0 where
  pub no_six : HasNoSix (reverse at.read)
  pub placed : (field : List Bool) → length field < width → IsPlaced (carried at.read ++ field)
  pub unfinished : (field : List Bool) → length field < width
      → length (carried at.read ++ field) < plain_length (carried at.read ++ field)

-- from one progress to another these bits of the plain part were read
pub record Went (old new : Progress) (field : List Bool) : Type 0 where
  pub all : all_bits new ≡ all_bits old
  pub no_six : HasNoSix (reverse new.read)
  pub carried : carried new.read ≡ carried old.read ++ field

-- the bit that was read last stood at no stuff place
pub record EndsPlain (read : List Bool) : Type 0 where
  pub before : List Bool
  pub bit : Bool
  pub split : read ≡ before ++ bit ∷ []
  pub no_stuff_place : run (reverse before) < 5
