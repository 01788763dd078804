-- The wire is the stuffed part and 13 bits.
use Rattle.std.proofs.Common.{◌≡◌, ◌+◌, ◌*◌, ◌/◌, ◌%◌, ◌++◌, ◌≤◌, append_assoc, length, ap, subst, ◌∙◌, arith}
use Rattle.std.proofs.lemmas.List.{length-append}
use Rattle.stuff_bound.specs.Fields.{bits}
use Rattle.stuff_bound.specs.Sending.{WasGiven}
use Rattle.can_frame.specs.Crc.{sequence_of}
use Rattle.can_frame.specs.DataFrame.{DataFrame}
use Rattle.can_frame.specs.Wire.{covered, plain, wire_length, wire_of, with_sequence}
use Rattle.can_frame.proofs.Begun.{begun-all, begun-sequence}
use Rattle.can_frame.proofs.Plain.{length-with_sequence}
use Rattle.can_frame.proofs.PlainFields.{sequence-parts}
use Rattle.can_frame.proofs.Remainder.{IsRemainder-one, IsSequence-sequence_of}
use Rattle.can_frame.proofs.sending.len_after.Goals as goal

length-plain : (frame : DataFrame) → length (plain frame) ≡ 34 + 8 * length frame.bytes
unfolding plain
length-plain frame = length-with_sequence frame _

-- the sender was given the CRC sequence too
given-plain : (c : goal.After-stuff_bits) → WasGiven c.then-sender.result (plain c.args.frame.now)
unfolding plain with_sequence
given-plain c =
    let frame = c.args.frame.now in
    let sum = c.args.begun.sum in
    let before = covered frame in
    let high = bits 7 (sum / 0x100) in
    let low = bits 8 (sum % 0x100) in
    let begun = c.requires.begun in
    let sequence : sum ≡ sequence_of before = IsRemainder-one _ _ _ (begun-sequence frame sum c.args.begun.sender begun) (IsSequence-sequence_of before) in
    let at_start : WasGiven c.args.begun.sender before = subst (λ bits. WasGiven c.args.begun.sender bits) (begun-all frame) begun.given in
    let all = c.then-sender.ensures.given (before ++ high) (c.then.ensures.given before at_start) in
    let whole : (before ++ high) ++ low ≡ plain frame =
    append_assoc before high low ∙ ap (λ field. before ++ field) (sequence-parts sum) ∙ ap (λ sum. before ++ bits 15 sum) sequence in
    subst (λ sent. WasGiven c.then-sender.result sent) whole all

-- fewer stuff bits than a quarter of the others
few : (c : goal.After-stuff_bits) → 4 * c.stuff_bits.result + 1 ≤ 34 + 8 * length c.args.frame.now.bytes
few c =
    let plain = plain c.args.frame.now in
    let width = length-plain c.args.frame.now in
    omega (arith, width, c.stuff_bits.ensures.few plain (given-plain c) (omega arith))

pub overflow_add-result : goal.overflow_add-result
overflow_add-result c = omega (arith, few c)

pub overflow_add-result-2 : goal.overflow_add-result-2
overflow_add-result-2 c = omega (arith, few c)

pub returns-clause-value : goal.returns-clause-value
unfolding wire_length wire_of
returns-clause-value c = grind (arith, length-plain, given-plain, length-append)

pub returns-clause-at_most : goal.returns-clause-at_most
returns-clause-at_most c = omega (arith, few c)
