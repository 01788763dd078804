-- One byte after another.
use Rattle.std.proofs.Common.{arith}
use Rattle.can_frame.proofs.Expectations.{expects_byte}
use Rattle.can_frame.proofs.reader.Reader.data.Goals as goal

pub field-requires-clause-expects : goal.field-requires-clause-expects
field-requires-clause-expects c =
    expects_byte c.args.self.now c.loop-place.self c.loop-place.bytes c.loop-place.place c.args.len c.loop-place.invariant.room c.requires.few (omega arith) c.requires.expects
    c.loop-place.invariant.went
