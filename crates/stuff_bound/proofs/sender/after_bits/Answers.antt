use Rattle.std.proofs.Common.{◌≡◌, ◌≢◌, ℕ, ◌-◌, ◌*◌, ◌/◌, ◌%◌, ◌^◌, ◌≤◌, List, [], ◌++◌, length, take, get_or, arith}
use Rattle.stuff_bound.specs.Fields.{bits, bits_of}
use Rattle.stuff_bound.specs.Sending.{Counted, WasGiven}
use Rattle.stuff_bound.proofs.Fields.{taken-whole, taken-part, high-below}
use Rattle.stuff_bound.proofs.sender.after_bits.Goals as goal

-- the whole bytes are all there is
only_whole : (bytes : List ℕ) (count : ℕ) (kept : Counted) → count ≤ 8 * length bytes → count % 8 ≡ 0 → WasGiven kept (bits_of (take (count / 8) bytes)) → WasGiven kept (take count (bits_of bytes))
only_whole bytes count kept within none h =
    rw (taken-whole bytes count (count / 8) (omega arith) (omega arith)) h

-- the first bits of one more byte
and_part : (bytes : List ℕ) (count : ℕ) (kept : Counted) → count ≤ 8 * length bytes → count % 8 ≢ 0
    → WasGiven kept (bits_of (take (count / 8) bytes) ++ bits (count % 8) (get_or bytes (count / 8) 0 / 2 ^ (8 - count % 8)))
    → WasGiven kept (take count (bits_of bytes))
and_part bytes count kept within some h = grind (arith, taken-part)

pub returns-then-rest-eq0 : goal.returns-then-rest-eq0
returns-then-rest-eq0 c = record {
  given = only_whole c.args.bytes.now c.args.bits _ c.requires.within c.if-rest-eq0.true (c.then_bytes-sender.ensures.given [] c.new.ensures.given);
}

pub then-requires-clause-value : goal.then-requires-clause-value
then-requires-clause-value c = grind (arith, high-below)

pub returns : goal.returns
returns c = record {
  given = and_part c.args.bytes.now c.args.bits _ c.requires.within c.if-rest-eq0.false (c.then.ensures.given (bits_of (take (c.args.bits / 8) c.args.bytes.now)) (c.then_bytes-sender.ensures.given [] c.new.ensures.given));
}
