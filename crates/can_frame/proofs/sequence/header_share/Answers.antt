-- Three bytes, one behind the other, behind nothing.
use Rattle.std.proofs.Common.{◌≡◌, ◌+◌, ◌*◌, ◌^◌, ◌<◌, ℕ, bit_xor, arith}
use Rattle.can_frame.specs.Crc.{IsRemainder}
use Rattle.can_frame.proofs.ByteSums.{more-share}
use Rattle.can_frame.proofs.sequence.header_share.Goals as goal

-- the shares of a number of three bytes are its own
three-shares : (header high mid low behind r s t : ℕ) → high < 256 → mid < 256 → low < 256 → header ≡ 0x100 * (0x100 * high + mid) + low
    → IsRemainder (high * 2 ^ (15 + 8 * (behind + 2))) r → IsRemainder (mid * 2 ^ (15 + 8 * (behind + 1))) s → IsRemainder (low * 2 ^ (15 + 8 * behind)) t
    → IsRemainder (header * 2 ^ (15 + 8 * behind)) (bit_xor (bit_xor r s) t)
three-shares header high mid low behind r s t h k l is first second third =
    let next : behind + 2 ≡ behind + 1 + 1 = omega arith in
    let two = more-share high mid (behind + 1) r s k (rw next at first) second in
    rw is (more-share (0x100 * high + mid) low behind (bit_xor r s) t l two third)

pub returns : goal.returns
returns c = grind (arith, three-shares)
