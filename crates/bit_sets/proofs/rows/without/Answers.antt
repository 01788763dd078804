use Rattle.std.proofs.Common.{◌*◌, ◌%◌, ◌^◌, ◌&&◌, not, bit_and, ap, ◌∙◌, arith}
use Rattle.std.specs.Int.{bit_not, w128}
use Rattle.std.proofs.lemmas.Nat.{and_le_l}
use Rattle.bit_sets.specs.Sets.{has_bit}
use Rattle.bit_sets.proofs.Bits.{has_bit-without, turned-eq}
use Rattle.bit_sets.proofs.SetOf.{without-less}
use Rattle.bit_sets.proofs.rows.without.Goals as goal

pub returns : goal.returns
returns c =
    let set = c.args.set in
    let row = c.args.row in
    let known = c.requires.known in
    let fits = c.ranges.set.fits in
    let fewer = and_le_l set (bit_not w128 (1 * 2 ^ row % 2 ^ 128)) in
    record {
      rows = λ i. rw c.one_bit.ensures.number (has_bit-without set row i known fits ∙ ap (λ b. not b && has_bit set i) (turned-eq i row));
      less = λ stands. rw c.one_bit.ensures.number
          (without-less 128 set (bit_and set (bit_not w128 (1 * 2 ^ row % 2 ^ 128))) row known fits (omega arith) stands (λ i. has_bit-without set row i known fits));
    }
