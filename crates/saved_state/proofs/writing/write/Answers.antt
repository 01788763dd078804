use Rattle.std.proofs.Common.{arith}
use Rattle.std.proofs.lemmas.Grind.{common_steps}
use Rattle.saved_state.proofs.Standing.{written, written-length}
use Rattle.saved_state.proofs.writing.write.Goals as goal

pub returns-clause-bytes : goal.returns-clause-bytes
returns-clause-bytes c =
    written c.args.saved.now c.in_ok-numbers.numbers.items c.put_numbers.new.bytes.items c.extend_from_slice-2.new.self.items
    c.in_ok-numbers.ensures.typed c.in_ok-numbers.ensures.numbers
    (grind (arith, common_steps, c.as_slice.ensures.value, c.in_ok-put_numbers.ensures, c.new-behind.ensures))
    (grind (arith, common_steps, c.as_slice-2.ensures.value, c.as_slice-3.ensures.value, c.checksum.ensures.checksum, c.in_ok-extend_from_slice.ensures, c.in_ok-extend_from_slice-2.ensures, c.to_le_bytes.ensures, c.from-sum.ensures, c.new-bytes.ensures))

pub returns-clause-count : goal.returns-clause-count
returns-clause-count c = written-length c.args.saved.now c.extend_from_slice-2.new.self.items (returns-clause-bytes c)
