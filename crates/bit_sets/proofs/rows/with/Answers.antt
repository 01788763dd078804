use Rattle.std.proofs.Common.{◌||◌, ap, ◌∙◌}
use Rattle.bit_sets.specs.Sets.{has_bit}
use Rattle.bit_sets.proofs.Bits.{has_bit-with, turned-eq}
use Rattle.bit_sets.proofs.rows.with.Goals as goal

pub returns : goal.returns
returns c =
    let row = c.args.row in
    record {
      rows = λ i. rw c.one_bit.ensures.number (has_bit-with c.args.set row i c.requires.known ∙ ap (λ b. b || has_bit c.args.set i) (turned-eq i row));
    }
