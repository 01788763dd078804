use Rattle.std.proofs.Common.{◌≡◌, ℕ, List, ◌+◌, ◌-◌, ◌%◌, ◌<◌, length, get_or, leb, cond, bit_and, false, sym, ap, ◌∙◌, subst, arith}
use Rattle.std.specs.Prelude.{replicate}
use Rattle.std.proofs.lemmas.Simd.{get_or-chunk, get_or-replicate, get_or-zip2, length-chunk, length-replicate, length-zip2}
use lib.Lanes.{chunk, top, zip2}
use Rattle.text_fields.proofs.Shared.{none-set}
use Rattle.log_reader.proofs.LaneBits.{one-passes}
use Rattle.log_reader.proofs.lanes.among_lanes.Goals as goal

pub returns : goal.returns
returns c =
    let bytes = c.args.bytes.now in
    let first = c.args.first in
    let count = c.args.count in
    let letters = c.args.letters in
    let own : List ℕ = chunk 0 16 bytes in
    let lowest : ℕ = 97 in
    let least : List ℕ = replicate 16 lowest in
    let less : ℕ → ℕ → ℕ = λ a b. (a + (256 - b)) % 256 in
    let above : ℕ → ℕ → ℕ = λ a b. cond (leb a b) 255 0 in
    let counted : List ℕ = zip2 less own first in
    let lettered : List ℕ = zip2 less own least in
    let one : List ℕ = zip2 above count counted in
    let two : List ℕ = zip2 above letters lettered in
    let long : length own ≡ 16 = length-chunk 0 16 bytes c.requires.enough in
    let firsts : length first ≡ 16 = c.requires.firsts in
    let counts : length count ≡ 16 = c.requires.counts in
    let letterss : length letters ≡ 16 = c.requires.others in
    let places : length least ≡ 16 = length-replicate 16 lowest in
    let a : length counted ≡ 16 = length-zip2 less own first (long ∙ sym firsts) ∙ long in
    let b : length lettered ≡ 16 = length-zip2 less own least (long ∙ sym places) ∙ long in
    let d : length one ≡ 16 = length-zip2 above count counted (counts ∙ sym a) ∙ counts in
    let e : length two ≡ 16 = length-zip2 above letters lettered (letterss ∙ sym b) ∙ letterss in
    let all : length (zip2 bit_and one two) ≡ 16 = length-zip2 bit_and one two (d ∙ sym e) ∙ d in
    let (few, none) = none-set c.first_set.result (zip2 bit_and one two) all c.first_set.ensures.place in
    record {
      few = few;
      among = λ i before.
          let inside : i < 16 = omega (arith, before, few) in
          let same : 0 + i ≡ i = omega arith in
          let byte = get_or-chunk 0 16 bytes i 0 inside ∙ ap (λ j. get_or bytes j 0) same in
          let x = get_or-zip2 less own first i 0 0 0 (omega (arith, inside, long)) (omega (arith, inside, firsts)) ∙ ap (λ n. less n (get_or first i 0)) byte in
          let y = get_or-zip2 less own least i 0 0 0 (omega (arith, inside, long)) (omega (arith, inside, places))
          ∙ ap (λ n. less n (get_or least i 0)) byte ∙ ap (less (get_or bytes i 0)) (get_or-replicate 16 i lowest 0 inside) in
          let first_test = get_or-zip2 above count counted i 0 0 0 (omega (arith, inside, counts)) (omega (arith, inside, a)) ∙ ap (above (get_or count i 0)) x in
          let second_test = get_or-zip2 above letters lettered i 0 0 0 (omega (arith, inside, letterss)) (omega (arith, inside, b)) ∙ ap (above (get_or letters i 0)) y in
          let both = get_or-zip2 bit_and one two i 0 0 0 (omega (arith, inside, d)) (omega (arith, inside, e))
          ∙ ap (λ n. bit_and n (get_or two i 0)) first_test ∙ ap (bit_and (above (get_or count i 0) (less (get_or bytes i 0) (get_or first i 0)))) second_test in
          one-passes _ _ _ _ (subst (λ n. top 7 n ≡ false) both (none i before));
    }
