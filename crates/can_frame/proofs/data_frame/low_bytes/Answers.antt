-- The number is shifted to the first places.
use Rattle.std.proofs.Common.{◌-◌, ◌*◌, ◌%◌, ◌^◌, ap, ◌∙◌}
use Rattle.std.specs.Int.{bytes_high_first}
use Rattle.can_frame.proofs.LowBytes.{low-bytes}
use Rattle.can_frame.proofs.data_frame.low_bytes.Goals as goal

pub returns : goal.returns
returns c = record {
  places = c.to_be_bytes.ensures
      ∙ ap (λ len. bytes_high_first 8 (c.args.number * 2 ^ (64 - 8 * len) % 2 ^ 64)) c.from.ensures
      ∙ low-bytes c.args.len c.args.number c.requires.few;
}
