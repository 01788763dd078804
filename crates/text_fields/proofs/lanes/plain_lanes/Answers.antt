use Rattle.std.proofs.Common.{ℕ, leb, cond, refl}
use Rattle.std.proofs.lemmas.Simd.{length-chunk, splat_is_map, zip2_of_maps, zip2_splat}
use lib.Lanes.{chunk}
use Rattle.text_fields.specs.PlainRows.{is_plain}
use Rattle.text_fields.proofs.LaneBits.{run-few, run-passes}
use Rattle.text_fields.proofs.lanes.plain_lanes.Goals as goal

pub returns : goal.returns
returns c =
    let bytes = c.args.bytes.now in
    let own = chunk 0 16 bytes in
    let long = length-chunk 0 16 bytes c.requires.enough in
    let each = zip2_of_maps (λ a b. cond (leb a b) 255 0) _ _ own (splat_is_map own 16 211 long) (zip2_splat {Y = ℕ} _ own 16 45 long) in
    record {
      few = run-few is_plain bytes _ _ _ c.requires.enough c.type_inv.bytes c.first_set.ensures.place each;
      plain = run-passes is_plain bytes _ _ _ c.requires.enough c.type_inv.bytes c.first_set.ensures.place each refl;
    }
