-- The header, the data bytes and the sequence, and the stuff bit behind them.
use Rattle.std.proofs.Common.{ℕ, List, take, sym, ap, ◌∙◌}
use Rattle.stuff_bound.specs.Stuffing.{stuffed}
use Rattle.can_frame.specs.Wire.{with_sequence}
use Rattle.can_frame.proofs.Steps.{went_then}
use Rattle.can_frame.proofs.Expectations.{frame_of, expects_data, expects_sequence, plain_read, plain_begun, stuffed_read}
use Rattle.can_frame.proofs.reader.Reader.stuffed_part.Goals as goal

pub data-requires-clause-expects : goal.data-requires-clause-expects
data-requires-clause-expects c =
    expects_data c.args.self.now _ c.in_ok-id.id c.in_ok-id.len c.in_ok-id.ensures.id c.in_ok-id.ensures.code c.requires.start c.in_ok-id.ensures.ok

pub field-requires-clause-expects : goal.field-requires-clause-expects
field-requires-clause-expects c =
    let to_sequence = went_then c.args.self.now _ _ _ _ c.in_ok-id.ensures.ok c.in_ok-bytes.ensures.ok in
    expects_sequence c.args.self.now _ c.in_ok-id.id c.in_ok-id.len c.in_ok-bytes.bytes c.in_ok-id.ensures.id c.in_ok-id.ensures.code c.in_ok-bytes.ensures.room c.requires.start
    to_sequence

pub stuff_bit-requires : goal.stuff_bit-requires
stuff_bit-requires c =
    let to_sequence = went_then c.args.self.now _ _ _ _ c.in_ok-id.ensures.ok c.in_ok-bytes.ensures.ok in
    let to_end = went_then c.args.self.now _ _ _ _ to_sequence c.in_ok-sequence.ensures.ok in
    record {
      begun =
          plain_begun c.args.self.now _ c.in_ok-id.id c.in_ok-id.len c.in_ok-sequence.sequence c.in_ok-bytes.bytes c.in_ok-id.ensures.id c.in_ok-id.ensures.code
          c.in_ok-bytes.ensures.room c.requires.start to_end;
    }

pub returns-clause-ok : goal.returns-clause-ok
returns-clause-ok c =
    let to_sequence = went_then c.args.self.now _ _ _ _ c.in_ok-id.ensures.ok c.in_ok-bytes.ensures.ok in
    let to_end = went_then c.args.self.now _ _ _ _ to_sequence c.in_ok-sequence.ensures.ok in
    let is =
    plain_read c.args.self.now c.field.new.self c.in_ok-id.id c.in_ok-id.len c.in_ok-sequence.sequence c.in_ok-bytes.bytes c.in_ok-id.ensures.code c.in_ok-bytes.ensures.room
    c.requires.start to_end in
    let count : ℕ → List ℕ = λ n. take n c.in_ok-bytes.bytes in
    stuffed_read c.field.new.self c.stuff_bit.new.self _ is c.in_ok-stuff_bit.ensures.ok c.in_ok-stuff_bit.ensures.no_stuff_place
    ∙ ap (λ frame. stuffed (with_sequence frame c.in_ok-sequence.sequence))
    (sym (c.in-Ok.ensures.frame ∙ ap (λ n. frame_of c.in_ok-id.id (count n)) c.from.ensures))
