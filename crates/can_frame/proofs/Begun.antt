-- The bits of a frame up to a data byte, and what is known once they were gone through.
use Rattle.std.proofs.Common.{◌≡◌, ℕ, ◌+◌, ◌-◌, ◌*◌, ◌^◌, ◌<◌, ◌≤◌, ◌++◌, length, take, get_or, bit_xor, append_assoc, refl, ap₂, arith}
use Rattle.std.proofs.lemmas.Grind.{common_steps}
use Rattle.std.proofs.lemmas.List.{append-nil, take_more, take_all}
use Rattle.stuff_bound.specs.Fields.{bits}
use Rattle.stuff_bound.specs.Sending.{Counted, WasGiven}
use Rattle.can_frame.specs.DataFrame.{DataFrame}
use Rattle.can_frame.specs.Begun.{begun_bits, HasBegun, HaveOneFront}
use Rattle.can_frame.specs.Crc.{IsRemainder, IsSequence}
use Rattle.can_frame.specs.Number.{number}
use Rattle.can_frame.specs.Wire.{header, covered}
use Rattle.can_frame.proofs.ByteSums.{so_far, next-share}
use Rattle.can_frame.proofs.Plain.{data-more}

-- they are the number that the sum is of
pub begun_number : (frame : DataFrame) (count : ℕ) → number (begun_bits frame count) ≡ so_far frame.identifier (length frame.bytes) (take count frame.bytes)
unfolding begun_bits
begun_number frame count = refl

-- none of the bytes, one more of them, and all of them
pub begun-none : (frame : DataFrame) → begun_bits frame 0 ≡ header frame.identifier (length frame.bytes)
unfolding begun_bits
begun-none frame = append-nil (header frame.identifier (length frame.bytes))

pub begun-more : (frame : DataFrame) (count byte : ℕ) → count < length frame.bytes → byte ≡ get_or frame.bytes count 0
    → begun_bits frame count ++ bits 8 byte ≡ begun_bits frame (count + 1)
unfolding begun_bits
begun-more frame count byte inside byte_is = grind (arith, common_steps, take_more, append_assoc, data-more)

pub begun-all : (frame : DataFrame) → begun_bits frame (length frame.bytes) ≡ covered frame
unfolding begun_bits covered
begun-all frame = grind (arith, take_all)

-- one byte more
pub more-begun : (frame : DataFrame) (count behind byte sum share : ℕ) (before after : Counted) → count + (behind + 1) ≡ length frame.bytes → byte ≡ get_or frame.bytes count 0 → byte < 256
    → HasBegun frame count sum before → IsRemainder (byte * 2 ^ (15 + 8 * behind)) share
    → WasGiven after (begun_bits frame count ++ bits 8 byte) → after.stuff_bits ≤ before.stuff_bits + 2
    → HasBegun frame (count + 1) (bit_xor sum share) after
more-begun frame count behind byte sum share before after all byte_is small begun adds sent longer =
    let fewer : length frame.bytes - (count + 1) ≡ behind = omega arith in
    let one_less : behind + 1 - 1 ≡ behind = omega arith in
    grind (arith, so_far, begun_number, bit_xor, next-share, begun-more)

-- the sum of all is the sequence
pub begun-sequence : (frame : DataFrame) (sum : ℕ) (sender : Counted) → HasBegun frame (length frame.bytes) sum sender → IsSequence (covered frame) sum
begun-sequence frame sum sender begun = grind (arith, begun-all)

-- what is known of a frame is known of each one with the same front
pub same-front : (one other : DataFrame) (sum : ℕ) (sender : Counted) → HaveOneFront one other → HasBegun one (length one.bytes - 1) sum sender → HasBegun other (length other.bytes - 1) sum sender
unfolding begun_bits
same-front one other sum sender same begun = grind (arith, ap₂)
