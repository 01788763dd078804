-- *Reading*: what a reader answers that goes over bits from left to right, where the first wrong place decides.
--
-- The bits before a wrong place are right: they begin the wire of a frame, as far as can be seen there. A place is an
-- index into the bits. A sixth equal bit stands at a stuff place, which has no bit of a field, so no place has two
-- faults.
use Rattle.std.specs.Prelude.{◌≡◌, ◌≢◌, ℕ, ◌+◌, ◌*◌, ◌^◌, ◌<◌, ◌≤◌, ◌⊎◌, Bool, not, List, [], ◌∷◌, ◌++◌}
use Rattle.std.specs.Prelude.{length, take, drop, reverse, replicate, Result, Ok, Err}
use Rattle.stuff_bound.specs.Stuffing.{run, HasNoSix, without_stuff, stuffed}
use Rattle.can_frame.specs.declared.data_frame.Front.{Front}
use Rattle.can_frame.specs.declared.wire_fault.WireFault.{WireFault}
use Rattle.can_frame.specs.declared.wire_fault.WireFault.TheVariants.{Stuff, Form, Crc, Short, Tail, Memory}
use Rattle.can_frame.specs.DataFrame.{DataFrame, IsFrame}
use Rattle.can_frame.specs.Number.{number}
use Rattle.can_frame.specs.Crc.{IsSequence}
use Rattle.can_frame.specs.Wire.{recessive, covered, with_sequence, plain, trailer, wire_of, wire_length}

-- the bits of the plain part that wire bits carry: those at no stuff place
abbrev pub carried : List Bool → List Bool
carried wire = reverse (without_stuff (reverse wire))

-- how many bits the plain part has, by the data length code that follows its first 15 bits
unfoldable pub plain_length : List Bool → ℕ
plain_length begun = 34 + 8 * number (take 4 (drop 15 begun))

-- no frame has this bit behind these bits of its plain part
pub data IsMisplaced (begun : List Bool) (bit : Bool) : Type 0 where
  -- start of frame is dominant
  start : length begun ≡ 0 → bit ≡ recessive → IsMisplaced begun bit
  -- the seven most significant bits of an identifier are not all recessive
  identifier : length begun ≡ 7 → drop 1 (begun ++ bit ∷ []) ≡ replicate 7 recessive → IsMisplaced begun bit
  -- RTR, r1 and r0 are dominant
  reserved : 12 ≤ length begun → length begun ≤ 14 → bit ≡ recessive → IsMisplaced begun bit
  -- a data length code is at most 8, which its last bit decides
  code : length begun ≡ 18 → 8 < number (drop 15 (begun ++ bit ∷ [])) → IsMisplaced begun bit

-- no bit of the plain part so far is misplaced
abbrev pub IsPlaced : List Bool → Type 0
IsPlaced begun =
    (front back : List Bool) (bit : Bool) → begun ≡ front ++ bit ∷ back → ¬ IsMisplaced front bit

-- nothing is wrong in these bits of the wire, and they do not go beyond the plain part
pub record IsBegun (wire : List Bool) : Type 0 where
  pub no_six : HasNoSix (reverse wire)
  pub placed : IsPlaced (carried wire)
  pub within : length (carried wire) ≤ plain_length (carried wire)

-- the stuffed part goes on behind these bits: a stuff bit is to come, or a bit of the plain part
abbrev pub GoesOn : List Bool → Type 0
GoesOn wire = (5 ≤ run (reverse wire)) ⊎ (length (carried wire) < plain_length (carried wire))

-- a sixth equal bit in the stuffed part
pub record FindsSixth (bits : List Bool) (place : ℕ) : Type 0 where
  pub before : List Bool
  pub bit : Bool
  pub after : List Bool
  pub split : bits ≡ before ++ bit ∷ after
  pub here : place ≡ length before
  pub begun : IsBegun before
  pub sixth : 6 ≤ run (bit ∷ reverse before)

-- a bit of the plain part that no frame has there
pub record FindsMisplaced (bits : List Bool) (place : ℕ) : Type 0 where
  pub before : List Bool
  pub bit : Bool
  pub after : List Bool
  pub split : bits ≡ before ++ bit ∷ after
  pub here : place ≡ length before
  pub begun : IsBegun before
  pub no_stuff_place : run (reverse before) < 5
  pub unfinished : length (carried before) < plain_length (carried before)
  pub misplaced : IsMisplaced (carried before) bit

-- a wrong bit behind the stuffed part of a frame
pub record FindsWrongEnd (bits : List Bool) (place : ℕ) : Type 0 where
  pub frame : DataFrame
  pub before : List Bool
  pub bit : Bool
  pub after : List Bool
  pub due : List Bool
  pub legal : IsFrame frame
  pub split : bits ≡ stuffed (plain frame) ++ (before ++ bit ∷ after)
  pub here : place ≡ length (stuffed (plain frame)) + length before
  pub wrong : trailer ≡ before ++ not bit ∷ due

-- the stuffed part of a frame but for the CRC sequence, which is not that of the bits before it
pub record FindsCrc (bits : List Bool) (sent computed : ℕ) : Type 0 where
  pub frame : DataFrame
  pub after : List Bool
  pub legal : IsFrame frame
  pub split : bits ≡ stuffed (with_sequence frame sent) ++ after
  pub narrow : sent < 2 ^ 15
  pub remainder : IsSequence (covered frame) computed
  pub wrong : sent ≢ computed

-- the bits end in the stuffed part
pub record EndsInside (bits : List Bool) : Type 0 where
  pub begun : IsBegun bits
  pub goes_on : GoesOn bits

-- the bits end behind the stuffed part of a frame and before its last bit
pub record EndsEarly (bits : List Bool) : Type 0 where
  pub frame : DataFrame
  pub before : List Bool
  pub bit : Bool
  pub due : List Bool
  pub legal : IsFrame frame
  pub split : bits ≡ stuffed (plain frame) ++ before
  pub missing : trailer ≡ before ++ bit ∷ due

-- a bit behind the wire of a frame
pub record FindsMore (bits : List Bool) (place : ℕ) : Type 0 where
  pub frame : DataFrame
  pub bit : Bool
  pub after : List Bool
  pub legal : IsFrame frame
  pub split : bits ≡ wire_of frame ++ bit ∷ after
  pub here : place ≡ wire_length frame

-- the answer to these bits (`laws` says that there is one at most, and `read_wire` gives it)
abbrev pub Reads : List Bool → Result DataFrame WireFault → Type 0
Reads bits (Ok frame) = IsFrame frame × (bits ≡ wire_of frame)
Reads bits (Err (Stuff place)) = FindsSixth bits place
Reads bits (Err (Form place)) = FindsMisplaced bits place ⊎ FindsWrongEnd bits place
Reads bits (Err (Crc sent computed)) = FindsCrc bits sent computed
Reads bits (Err (Short have)) = (have ≡ length bits) × (EndsInside bits ⊎ EndsEarly bits)
Reads bits (Err (Tail place)) = FindsMore bits place
-- no memory is needed
Reads bits (Err Memory) = ⊥

-- a whole frame stands at the front of the bits, whatever is behind it
pub record IsFront (bits : List Bool) (front : Front) : Type 0 where
  pub legal : IsFrame front.frame
  pub rest : List Bool
  pub split : bits ≡ wire_of front.frame ++ rest
  pub here : front.end ≡ wire_length front.frame

-- the answer to bits of which a frame may be the front: that frame, or what is found in the bits before one is whole
-- (`laws` says that there is one at most, and `read_front` gives it)
abbrev pub ReadsFront : List Bool → Result Front WireFault → Type 0
ReadsFront bits (Ok front) = IsFront bits front
ReadsFront bits (Err (Stuff place)) = Reads bits (Err (Stuff place))
ReadsFront bits (Err (Form place)) = Reads bits (Err (Form place))
ReadsFront bits (Err (Crc sent computed)) = Reads bits (Err (Crc sent computed))
ReadsFront bits (Err (Short have)) = Reads bits (Err (Short have))
-- what is behind a frame is not looked at, and no memory is needed
ReadsFront bits (Err (Tail place)) = ⊥
ReadsFront bits (Err Memory) = ⊥
