-- Bit stuffing, as CAN 2.0 Part A says it ("Bit stream coding"): whenever a sender has sent five equal bits in a row,
-- stuff bits counted, it sends one bit of the opposite level. A bit is a `Bool`: dominant is `false`, recessive is
-- `true`.
--
-- The words here look at what was sent newest first, so that the tail of such a list is what stood before its head. A
-- list in the order of sending is turned round by `reverse` once. `ByPlace` says the same by places in the order of
-- sending.
use Rattle.std.specs.Prelude.{◌≡◌, ℕ, ◌+◌, ◌*◌, ◌<◌}
use Rattle.std.specs.Prelude.{Bool, false, not, if◌then◌else◌, nat_le, List, [], ◌∷◌, min, reverse}
use Rattle.std.specs.Bool.{beq}

-- the bit that was sent last (`false` where none was)
abbrev pub last_bit : List Bool → Bool
last_bit [] = false
last_bit (bit ∷ sent) = bit

-- how many equal bits were sent last
abbrev pub run : List Bool → ℕ
run [] = 0
run (bit ∷ sent) = if beq bit (last_bit sent) then run sent + 1 else 1

-- the next bit stands at a stuff place: the five bits before it are equal
abbrev pub at_stuff_place : List Bool → Bool
at_stuff_place sent = nat_le 5 (run sent)

-- no six neighbouring bits are equal
abbrev pub HasNoSix : List Bool → Type 0
HasNoSix [] = Unit {0}
HasNoSix (bit ∷ sent) = (run (bit ∷ sent) < 6) × HasNoSix sent

-- what is left without the bits at stuff places
abbrev pub without_stuff : List Bool → List Bool
without_stuff [] = []
without_stuff (bit ∷ sent) = if at_stuff_place sent then without_stuff sent else bit ∷ without_stuff sent

-- *Stuffing*: `wire` stuffs `plain` where no six neighbouring bits of `wire` are equal, `wire` does not end with five
-- equal bits, and `wire` without its stuff places is `plain`
pub record Stuffs (wire plain : List Bool) : Type 0 where
  pub no_six : HasNoSix (reverse wire)
  pub ended : run (reverse wire) < 5
  pub left : without_stuff (reverse wire) ≡ reverse plain

-- what was sent, and the opposite bit behind five equal ones
abbrev pub with_opposite : List Bool → List Bool
with_opposite sent = if at_stuff_place sent then not (last_bit sent) ∷ sent else sent

-- what is on the wire once the bits of `plain` were sent, both newest first
abbrev pub with_stuff : List Bool → List Bool
with_stuff [] = []
with_stuff (bit ∷ plain) = with_opposite (bit ∷ with_stuff plain)

-- the one list that stuffs `plain`, in the order of sending (that it is the one is a law of `laws`)
abbrev pub stuffed : List Bool → List Bool
stuffed plain = reverse (with_stuff (reverse plain))

-- what a sender or a reader keeps of the bits so far: the last one, and how many equal ones came last, counted up to
-- five
pub record LastRun : Type 0 where
  pub last : Bool
  pub count : ℕ

-- what it keeps of these bits, newest first
abbrev pub last_run : List Bool → LastRun
last_run sent = record { last = last_bit sent; count = min 5 (run sent) }

-- `kept` is what it keeps of these bits, newest first
abbrev pub Tracks : LastRun → List Bool → Type 0
Tracks kept sent = kept ≡ last_run sent

-- the worst length of a data frame of `bytes` data bytes, in bit times: 34 + 8 bytes bits from the start of frame to
-- the CRC sequence, at most 8 + 2 bytes stuff bits among and behind them, ten bits to the end of frame, and three of
-- intermission (CAN 2.0 Part A, "Data frame" and "Interframe space")
abbrev pub worst : ℕ → ℕ
worst bytes = 55 + 10 * bytes
