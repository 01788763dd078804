use Rattle.std.proofs.Common.{ℕ, leb, cond, bit_and, refl}
use Rattle.std.proofs.lemmas.Simd.{length-chunk, splat_is_map, zip2_of_maps, zip2_splat}
use lib.Lanes.{chunk}
use Rattle.text_fields.specs.Hexadecimal.{is_hex_digit}
use Rattle.text_fields.proofs.Shared.{run-few, run-passes}
use Rattle.log_reader.proofs.lanes.hex_lanes.Goals as goal

pub returns : goal.returns
returns c =
    let bytes = c.args.bytes.now in
    let own = chunk 0 16 bytes in
    let long = length-chunk 0 16 bytes c.requires.enough in
    let no_decimal = zip2_of_maps (λ a b. cond (leb a b) 255 0) _ _ own (splat_is_map own 16 10 long) (zip2_splat {Y = ℕ} _ own 16 48 long) in
    let no_letter = zip2_of_maps (λ a b. cond (leb a b) 255 0) _ _ own (splat_is_map own 16 6 long) (zip2_splat {Y = ℕ} _ own 16 97 long) in
    let each = zip2_of_maps bit_and _ _ own no_decimal no_letter in
    record {
      few = run-few is_hex_digit bytes _ _ _ c.requires.enough c.type_inv.bytes c.first_set.ensures.place each;
      digits = run-passes is_hex_digit bytes _ _ _ c.requires.enough c.type_inv.bytes c.first_set.ensures.place each refl;
    }
